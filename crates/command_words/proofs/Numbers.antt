-- The number that a text is, from what `parse` reads.
use Rattle.std.proofs.Common.{◌≡◌, ◌<◌, ◌^◌, ℕ, Bool, true, false, List, Some, None, Result, Ok, Err, ◌∙◌, ap, refl, sym, arith, if◌then◌else◌}
use Rattle.std.specs.Result.{result_ok}
use Rattle.std.specs.Str.Parse.{IsNumeral, ParsesUnsigned, digits_value, without_leading_plus}
use Rattle.clap.specs.Values.{IsUnsignedIn}
use Rattle.clap.specs.ValueTests.{is_unsigned_in}
use Rattle.clap.specs.declared.builder.value_parser.ValueParser.TheVariants as parsers
use Rattle.clap.proofs.ValueTestLemmas.{accepts-Accepts, Accepts-accepts}
use Rattle.command_words.specs.Commands.{greatest_number, number_in}

by_test : (text : List ℕ) (test : Bool) → is_unsigned_in 0 greatest_number text ≡ test → number_in text ≡ (if test then Some (digits_value 10 (without_leading_plus text)) else None)
by_test text test is = ap (λ (b : Bool). if b then Some (digits_value 10 (without_leading_plus text)) else None) is

none_by_test : (text : List ℕ) (test : Bool) → is_unsigned_in 0 greatest_number text ≡ test
    → (IsNumeral 10 (without_leading_plus text) × (digits_value 10 (without_leading_plus text) < 2 ^ 64) → ⊥) → None ≡ number_in text
none_by_test text true is fails = let is_one : IsUnsignedIn 0 greatest_number text = accepts-Accepts false (parsers.Unsigned 0 greatest_number) text is in absurd (fails (is_one.0, is_one.1))
none_by_test text false is fails = sym (by_test text false is)

pub number_reads : {E : Type 0} (text : List ℕ) (r : Result ℕ E) → ParsesUnsigned 64 10 text r → result_ok r ≡ number_in text
number_reads text (Ok n) p =
    let is : is_unsigned_in 0 greatest_number text ≡ true = Accepts-accepts false (parsers.Unsigned 0 greatest_number) text (p.0.0, p.0.1, omega arith, omega (arith, p.0.1)) in
    ap Some p.1 ∙ sym (by_test text true is)
number_reads text (Err e) p = none_by_test text (is_unsigned_in 0 greatest_number text) refl p
