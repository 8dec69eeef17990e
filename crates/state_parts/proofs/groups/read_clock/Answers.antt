-- Each part is read in its order, and the first fault is the answer.
use Rattle.std.proofs.Common.{◌≡◌, ◌≤◌, ℕ, List, [], ◌∷◌, length, map, Option, Some, None, Bor, refl, arith}
use Rattle.std.proofs.lemmas.List.{length-map}
use Rattle.std.proofs.lemmas.Grind.{common_steps}
use Rattle.ssz_codec.specs.Layout.{◌and_then◌}
use Rattle.ssz_codec.specs.Basic.{uint64, bytes32}
use Rattle.ssz_codec.specs.Containers.{all_read}
use Rattle.beacon_types.specs.Containers.{fork_codec, block_header_codec}
use Rattle.state_parts.specs.inside.Groups.{clock_fields}
use Rattle.state_parts.proofs.groups.read_clock.Goals as goal

pub returns-in_default : goal.returns-in_default
unfolding clock_fields
returns-in_default c = grind (arith, common_steps)

pub returns-in_err-parse-in-len5 : goal.returns-in_err-parse-in-len5
unfolding clock_fields
returns-in_err-parse-in-len5 c = grind (arith, common_steps)

pub returns-in_err-parse-in-len5-2 : goal.returns-in_err-parse-in-len5-2
unfolding clock_fields
returns-in_err-parse-in-len5-2 c = grind (arith, common_steps)

pub returns-in_err-parse-in-len5-3 : goal.returns-in_err-parse-in-len5-3
unfolding clock_fields
returns-in_err-parse-in-len5-3 c = grind (arith, common_steps)

pub returns-in_err-parse-in-len5-4 : goal.returns-in_err-parse-in-len5-4
unfolding clock_fields
returns-in_err-parse-in-len5-4 c = grind (arith, common_steps)

pub returns-in_err-parse-in-len5-5 : goal.returns-in_err-parse-in-len5-5
unfolding clock_fields
returns-in_err-parse-in-len5-5 c = grind (arith, common_steps)

pub returns-in_ok-parse-in-len5-5 : goal.returns-in_ok-parse-in-len5-5
unfolding clock_fields
returns-in_ok-parse-in-len5-5 c = grind (arith, common_steps)

none_after : {A B : Type 0} (o : Option A) (f : A → Option B) → ((x : A) → f x ≡ None) → (o and_then f) ≡ None
none_after None f h = refl
none_after (Some x) f h = h x

-- a part is left over
six_parts : (parts : List (List ℕ)) → 6 ≤ length parts → clock_fields.deserialize all_read parts ≡ None
unfolding clock_fields
six_parts [] more = absurd (omega arith)
six_parts (p1 ∷ []) more = absurd (omega arith)
six_parts (p1 ∷ p2 ∷ []) more = absurd (omega arith)
six_parts (p1 ∷ p2 ∷ p3 ∷ []) more = absurd (omega arith)
six_parts (p1 ∷ p2 ∷ p3 ∷ p4 ∷ []) more = absurd (omega arith)
six_parts (p1 ∷ p2 ∷ p3 ∷ p4 ∷ p5 ∷ []) more = absurd (omega arith)
six_parts (p1 ∷ p2 ∷ p3 ∷ p4 ∷ p5 ∷ p6 ∷ parts) more =
    none_after (uint64.deserialize p1) _ (λ x1. none_after (bytes32.deserialize p2) _ (λ x2. none_after (uint64.deserialize p3) _ (λ x3.
    none_after (fork_codec.deserialize p4) _ (λ x4. none_after (block_header_codec.deserialize p5) _ (λ x5. refl)))))

pub returns-in_default-2 : goal.returns-in_default-2
returns-in_default-2 c =
    six_parts (map (λ (part : Bor (List ℕ)). part.now) c.args.parts.now) (omega (arith, c.in_default.len_at_least, length-map c.args.parts.now (λ (part : Bor (List ℕ)). part.now)))
