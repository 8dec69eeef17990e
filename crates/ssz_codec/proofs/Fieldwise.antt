-- A container is read where the row of its fields is, and from the same parts.
use Rattle.std.proofs.Common.{◌≡◌, ℕ, List, [], ◌∷◌, Option, Some, None, refl, ap, ◌∙◌}
use Rattle.ssz_codec.specs.declared.fault.SszFault.{SszFault}
use Rattle.ssz_codec.specs.declared.fault.SszFault.TheVariants.{NotAWriting, NoMemory}
use Rattle.ssz_codec.specs.Layout.{◌and_then◌}
use Rattle.ssz_codec.specs.Codec.{Codec}
use Rattle.ssz_codec.specs.Containers.{deserialize_next, all_read}
use Rattle.ssz_codec.specs.Reads.{Fails}
use Rattle.ssz_codec.specs.inside.Rows.{nothing_read, beside, read_before}

-- what is made of the values is what the next reading gives
record Makes {R S : Type 0} (reading : List (List ℕ) → Option R) (make : R → S) (next : List (List ℕ) → Option S) : Type 0 where
  each : (parts : List (List ℕ)) → next parts ≡ (reading parts and_then λ row. Some (make row))

no_more : {S : Type 0} (s : S) (parts : List (List ℕ)) → all_read s parts ≡ (nothing_read parts and_then λ row. Some s)
no_more s [] = refl
no_more s (part ∷ parts) = refl

ended : {S : Type 0} (s : S) → Makes nothing_read (λ row. s) (all_read s)
ended s = record { each = no_more s }

rest_made : {A R S : Type 0} (o : Option R) (a : A) (make : A → R → S)
    → (o and_then λ rest. Some (make a rest)) ≡ ((o and_then λ rest. Some (beside a rest)) and_then λ row. Some (make row.0 row.1))
rest_made None a make = refl
rest_made (Some rest) a make = refl

value_made : {A R S : Type 0} (o : Option A) (reading : List (List ℕ) → Option R) (make : A → R → S) (next : A → List (List ℕ) → Option S) (parts : List (List ℕ))
    → ((a : A) → Makes reading (make a) (next a))
    → (o and_then λ a. next a parts) ≡ ((o and_then λ a. reading parts and_then λ rest. Some (beside a rest)) and_then λ row. Some (make row.0 row.1))
value_made None reading make next parts h = refl
value_made (Some a) reading make next parts h = (h a).each parts ∙ rest_made (reading parts) a make

next_made : {A R S : Type 0} (c : Codec A) (reading : List (List ℕ) → Option R) (make : A → R → S) (next : A → List (List ℕ) → Option S)
    → ((a : A) → Makes reading (make a) (next a)) → (parts : List (List ℕ))
    → deserialize_next c next parts ≡ (read_before c reading parts and_then λ row. Some (make row.0 row.1))
next_made c reading make next h [] = refl
next_made c reading make next h (part ∷ parts) = value_made (c.deserialize part) reading make next parts h

before : {A R S : Type 0} (c : Codec A) {reading : List (List ℕ) → Option R} {make : A → R → S} {next : A → List (List ℕ) → Option S}
    → ((a : A) → Makes reading (make a) (next a)) → Makes (read_before c reading) (λ row. make row.0 row.1) (deserialize_next c next)
before c {reading = reading} {make = make} {next = next} h = record { each = next_made c reading make next h }

-- from the parts to the container
cut_made : {R S : Type 0} {reading : List (List ℕ) → Option R} {make : R → S} {next : List (List ℕ) → Option S} → Makes reading make next
    → (o : Option (List (List ℕ))) → (o and_then next) ≡ ((o and_then reading) and_then λ row. Some (make row))
cut_made h None = refl
cut_made h (Some parts) = h.each parts

of_row : {R S : Type 0} {reading : List (List ℕ) → Option R} {make : R → S} {next : List (List ℕ) → Option S} → Makes reading make next
    → (o : Option (List (List ℕ))) (row : R) → (o and_then reading) ≡ Some row → (o and_then next) ≡ Some (make row)
of_row {make = make} h o row e = cut_made h o ∙ ap (λ r. r and_then λ row. Some (make row)) e

of_fault : {R S : Type 0} {reading : List (List ℕ) → Option R} {make : R → S} {next : List (List ℕ) → Option S} → Makes reading make next
    → (e : SszFault) (o : Option (List (List ℕ))) → Fails e (o and_then reading) → Fails e (o and_then next)
of_fault {make = make} h NotAWriting o f = cut_made h o ∙ ap (λ r. r and_then λ row. Some (make row)) f
of_fault h NoMemory o f = tt

-- ---- containers of so many fields

pub two_read : {A1 A2 S : Type 0} (c1 : Codec A1) (c2 : Codec A2) (make : A1 → A2 → S) (o : Option (List (List ℕ))) (x1 : A1) (x2 : A2)
    → (o and_then read_before c1 (read_before c2 nothing_read)) ≡ Some (x1, (x2, tt))
    → (o and_then λ parts. deserialize_next c1 (λ x1. deserialize_next c2 (λ x2. all_read (make x1 x2))) parts) ≡ Some (make x1 x2)
two_read c1 c2 make o x1 x2 e = of_row (before c1 (λ x1. before c2 (λ x2. ended (make x1 x2)))) o (x1, (x2, tt)) e

pub two_unread : {A1 A2 S : Type 0} (c1 : Codec A1) (c2 : Codec A2) (make : A1 → A2 → S) (o : Option (List (List ℕ))) (e : SszFault)
    → Fails e (o and_then read_before c1 (read_before c2 nothing_read))
    → Fails e (o and_then λ parts. deserialize_next c1 (λ x1. deserialize_next c2 (λ x2. all_read (make x1 x2))) parts)
two_unread c1 c2 make o e h = of_fault (before c1 (λ x1. before c2 (λ x2. ended (make x1 x2)))) e o h

pub three_read : {A1 A2 A3 S : Type 0} (c1 : Codec A1) (c2 : Codec A2) (c3 : Codec A3) (make : A1 → A2 → A3 → S) (o : Option (List (List ℕ))) (x1 : A1) (x2 : A2) (x3 : A3)
    → (o and_then read_before c1 (read_before c2 (read_before c3 nothing_read))) ≡ Some (x1, (x2, (x3, tt)))
    → (o and_then λ parts. deserialize_next c1 (λ x1. deserialize_next c2 (λ x2. deserialize_next c3 (λ x3. all_read (make x1 x2 x3)))) parts) ≡ Some (make x1 x2 x3)
three_read c1 c2 c3 make o x1 x2 x3 e = of_row (before c1 (λ x1. before c2 (λ x2. before c3 (λ x3. ended (make x1 x2 x3))))) o (x1, (x2, (x3, tt))) e

pub three_unread : {A1 A2 A3 S : Type 0} (c1 : Codec A1) (c2 : Codec A2) (c3 : Codec A3) (make : A1 → A2 → A3 → S) (o : Option (List (List ℕ))) (e : SszFault)
    → Fails e (o and_then read_before c1 (read_before c2 (read_before c3 nothing_read)))
    → Fails e (o and_then λ parts. deserialize_next c1 (λ x1. deserialize_next c2 (λ x2. deserialize_next c3 (λ x3. all_read (make x1 x2 x3)))) parts)
three_unread c1 c2 c3 make o e h = of_fault (before c1 (λ x1. before c2 (λ x2. before c3 (λ x3. ended (make x1 x2 x3))))) e o h

pub four_read : {A1 A2 A3 A4 S : Type 0} (c1 : Codec A1) (c2 : Codec A2) (c3 : Codec A3) (c4 : Codec A4) (make : A1 → A2 → A3 → A4 → S) (o : Option (List (List ℕ))) (x1 : A1) (x2 : A2) (x3 : A3) (x4 : A4)
    → (o and_then read_before c1 (read_before c2 (read_before c3 (read_before c4 nothing_read)))) ≡ Some (x1, (x2, (x3, (x4, tt))))
    → (o and_then λ parts. deserialize_next c1 (λ x1. deserialize_next c2 (λ x2. deserialize_next c3 (λ x3. deserialize_next c4 (λ x4. all_read (make x1 x2 x3 x4))))) parts) ≡ Some (make x1 x2 x3 x4)
four_read c1 c2 c3 c4 make o x1 x2 x3 x4 e = of_row (before c1 (λ x1. before c2 (λ x2. before c3 (λ x3. before c4 (λ x4. ended (make x1 x2 x3 x4)))))) o (x1, (x2, (x3, (x4, tt)))) e

pub four_unread : {A1 A2 A3 A4 S : Type 0} (c1 : Codec A1) (c2 : Codec A2) (c3 : Codec A3) (c4 : Codec A4) (make : A1 → A2 → A3 → A4 → S) (o : Option (List (List ℕ))) (e : SszFault)
    → Fails e (o and_then read_before c1 (read_before c2 (read_before c3 (read_before c4 nothing_read))))
    → Fails e (o and_then λ parts. deserialize_next c1 (λ x1. deserialize_next c2 (λ x2. deserialize_next c3 (λ x3. deserialize_next c4 (λ x4. all_read (make x1 x2 x3 x4))))) parts)
four_unread c1 c2 c3 c4 make o e h = of_fault (before c1 (λ x1. before c2 (λ x2. before c3 (λ x3. before c4 (λ x4. ended (make x1 x2 x3 x4)))))) e o h

pub five_read : {A1 A2 A3 A4 A5 S : Type 0} (c1 : Codec A1) (c2 : Codec A2) (c3 : Codec A3) (c4 : Codec A4) (c5 : Codec A5) (make : A1 → A2 → A3 → A4 → A5 → S) (o : Option (List (List ℕ))) (x1 : A1) (x2 : A2) (x3 : A3) (x4 : A4) (x5 : A5)
    → (o and_then read_before c1 (read_before c2 (read_before c3 (read_before c4 (read_before c5 nothing_read))))) ≡ Some (x1, (x2, (x3, (x4, (x5, tt)))))
    → (o and_then λ parts. deserialize_next c1 (λ x1. deserialize_next c2 (λ x2. deserialize_next c3 (λ x3. deserialize_next c4 (λ x4. deserialize_next c5 (λ x5. all_read (make x1 x2 x3 x4 x5)))))) parts) ≡ Some (make x1 x2 x3 x4 x5)
five_read c1 c2 c3 c4 c5 make o x1 x2 x3 x4 x5 e = of_row (before c1 (λ x1. before c2 (λ x2. before c3 (λ x3. before c4 (λ x4. before c5 (λ x5. ended (make x1 x2 x3 x4 x5))))))) o (x1, (x2, (x3, (x4, (x5, tt))))) e

pub five_unread : {A1 A2 A3 A4 A5 S : Type 0} (c1 : Codec A1) (c2 : Codec A2) (c3 : Codec A3) (c4 : Codec A4) (c5 : Codec A5) (make : A1 → A2 → A3 → A4 → A5 → S) (o : Option (List (List ℕ))) (e : SszFault)
    → Fails e (o and_then read_before c1 (read_before c2 (read_before c3 (read_before c4 (read_before c5 nothing_read)))))
    → Fails e (o and_then λ parts. deserialize_next c1 (λ x1. deserialize_next c2 (λ x2. deserialize_next c3 (λ x3. deserialize_next c4 (λ x4. deserialize_next c5 (λ x5. all_read (make x1 x2 x3 x4 x5)))))) parts)
five_unread c1 c2 c3 c4 c5 make o e h = of_fault (before c1 (λ x1. before c2 (λ x2. before c3 (λ x3. before c4 (λ x4. before c5 (λ x5. ended (make x1 x2 x3 x4 x5))))))) e o h

pub eight_read : {A1 A2 A3 A4 A5 A6 A7 A8 S : Type 0} (c1 : Codec A1) (c2 : Codec A2) (c3 : Codec A3) (c4 : Codec A4) (c5 : Codec A5) (c6 : Codec A6) (c7 : Codec A7) (c8 : Codec A8) (make : A1 → A2 → A3 → A4 → A5 → A6 → A7 → A8 → S) (o : Option (List (List ℕ))) (x1 : A1) (x2 : A2) (x3 : A3) (x4 : A4) (x5 : A5) (x6 : A6) (x7 : A7) (x8 : A8)
    → (o and_then read_before c1 (read_before c2 (read_before c3 (read_before c4 (read_before c5 (read_before c6 (read_before c7 (read_before c8 nothing_read)))))))) ≡ Some (x1, (x2, (x3, (x4, (x5, (x6, (x7, (x8, tt))))))))
    → (o and_then λ parts. deserialize_next c1 (λ x1. deserialize_next c2 (λ x2. deserialize_next c3 (λ x3. deserialize_next c4 (λ x4. deserialize_next c5 (λ x5. deserialize_next c6 (λ x6. deserialize_next c7 (λ x7. deserialize_next c8 (λ x8. all_read (make x1 x2 x3 x4 x5 x6 x7 x8))))))))) parts) ≡ Some (make x1 x2 x3 x4 x5 x6 x7 x8)
eight_read c1 c2 c3 c4 c5 c6 c7 c8 make o x1 x2 x3 x4 x5 x6 x7 x8 e = of_row (before c1 (λ x1. before c2 (λ x2. before c3 (λ x3. before c4 (λ x4. before c5 (λ x5. before c6 (λ x6. before c7 (λ x7. before c8 (λ x8. ended (make x1 x2 x3 x4 x5 x6 x7 x8)))))))))) o (x1, (x2, (x3, (x4, (x5, (x6, (x7, (x8, tt)))))))) e

pub eight_unread : {A1 A2 A3 A4 A5 A6 A7 A8 S : Type 0} (c1 : Codec A1) (c2 : Codec A2) (c3 : Codec A3) (c4 : Codec A4) (c5 : Codec A5) (c6 : Codec A6) (c7 : Codec A7) (c8 : Codec A8) (make : A1 → A2 → A3 → A4 → A5 → A6 → A7 → A8 → S) (o : Option (List (List ℕ))) (e : SszFault)
    → Fails e (o and_then read_before c1 (read_before c2 (read_before c3 (read_before c4 (read_before c5 (read_before c6 (read_before c7 (read_before c8 nothing_read))))))))
    → Fails e (o and_then λ parts. deserialize_next c1 (λ x1. deserialize_next c2 (λ x2. deserialize_next c3 (λ x3. deserialize_next c4 (λ x4. deserialize_next c5 (λ x5. deserialize_next c6 (λ x6. deserialize_next c7 (λ x7. deserialize_next c8 (λ x8. all_read (make x1 x2 x3 x4 x5 x6 x7 x8))))))))) parts)
eight_unread c1 c2 c3 c4 c5 c6 c7 c8 make o e h = of_fault (before c1 (λ x1. before c2 (λ x2. before c3 (λ x3. before c4 (λ x4. before c5 (λ x5. before c6 (λ x6. before c7 (λ x7. before c8 (λ x8. ended (make x1 x2 x3 x4 x5 x6 x7 x8)))))))))) e o h
