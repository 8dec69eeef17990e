-- Deposits that are read one by one from the writing of their list.
use Rattle.std.proofs.Common.{◌≡◌, ◌∙◌, ◌⊎◌, inl, inr, ℕ, suc, ◌-◌, ◌*◌, ◌/◌, ◌%◌, ◌^◌, ◌<◌, ◌≤◌, Bool, cond, List, ◌∷◌, length, take, drop, Option, Some, None, Result, Err, refl, sym, ap, subst, arith}
use Rattle.std.specs.List.{AllByRecursion}
use Rattle.std.proofs.lemmas.Bool.{le-ltb, lt-ltb}
use Rattle.std.proofs.lemmas.List.{length-drop}
use Rattle.ssz_codec.specs.Lawful.{IsBytes}
use Rattle.ssz_codec.specs.Layout.{◌and_then◌}
use Rattle.ssz_codec.specs.Lists.{parse_items, parse_list}
use Rattle.ssz_codec.specs.Reads.{ReadsAs}
use Rattle.ssz_codec.specs.declared.fault.SszFault.{SszFault}
use Rattle.ssz_codec.specs.declared.fault.SszFault.TheVariants.{NotAWriting}
use Rattle.ssz_codec.specs.laws.Layout.{IsBytes-drop}
use Rattle.beacon_types.specs.declared.deposit_data.DepositData.{DepositData}
use Rattle.beacon_types.specs.Containers.{deposit_data_codec}
use Rattle.spec_genesis.specs.Branches.{deposits_codec}
use Rattle.spec_genesis.proofs.Torn.{whole_is_read, read_within, read_long, torn_is_unread}
use Rattle.genesis_maker.specs.inside.Deposits.{or_none, deposits_in, AreDeposits}

-- ---- which bytes are a list's writing

list_is : (bytes : List ℕ) → length bytes / 184 ≤ 2 ^ 32 → deposits_codec.deserialize bytes ≡ parse_items deposit_data_codec.deserialize 184 (length bytes / 184) bytes
unfolding parse_list
list_is bytes low = ap (λ (b : Bool). cond b None (parse_items deposit_data_codec.deserialize 184 (length bytes / 184) bytes)) (le-ltb 4294967296 (length bytes / 184) low)

too_many : (bytes : List ℕ) → 2 ^ 32 < length bytes / 184 → deposits_codec.deserialize bytes ≡ None
unfolding parse_list
too_many bytes high = ap (λ (b : Bool). cond b None (parse_items deposit_data_codec.deserialize 184 (length bytes / 184) bytes)) (lt-ltb 4294967296 (length bytes / 184) high)

pub unread : (bytes : List ℕ) → IsBytes bytes → (length bytes % 184 ≡ 0 → ⊥) ⊎ (2 ^ 32 < length bytes / 184) → deposits_codec.deserialize bytes ≡ None
unread bytes fits (inl torn) = torn_is_unread bytes fits torn
unread bytes fits (inr high) = too_many bytes high

pub deposits_are : (bytes : List ℕ) (deposits : List DepositData) → IsBytes bytes → deposits_codec.deserialize bytes ≡ Some deposits → AreDeposits bytes
unfolding deposits_in
deposits_are bytes deposits fits is = record { bytes_are = fits; reads = is ∙ ap (λ (ds : List DepositData). Some ds) (sym (ap or_none is)) }

pub whole : (bytes : List ℕ) → IsBytes bytes → length bytes % 184 ≡ 0 → length bytes / 184 ≤ 2 ^ 32 → AreDeposits bytes
whole bytes fits even low = let read = whole_is_read bytes low even in deposits_are bytes read.0 fits read.1

-- ---- what they hold

pub count_of : (bytes : List ℕ) → AreDeposits bytes → length bytes / 184 ≡ length (deposits_in bytes)
count_of bytes are = let long : length bytes ≡ length (deposits_in bytes) * 184 = read_long bytes (deposits_in bytes) are.bytes_are are.reads in omega arith

pub within_of : (bytes : List ℕ) → AreDeposits bytes → AllByRecursion deposit_data_codec.Within (deposits_in bytes)
within_of bytes are = (read_within bytes (deposits_in bytes) are.bytes_are are.reads).1

pub few_of : (bytes : List ℕ) → AreDeposits bytes → length (deposits_in bytes) ≤ 2 ^ 32
few_of bytes are = (read_within bytes (deposits_in bytes) are.bytes_are are.reads).0

pub some_bytes : (bytes : List ℕ) → AreDeposits bytes → 0 < length (deposits_in bytes) → 184 ≤ length bytes
some_bytes bytes are some = let long : length bytes ≡ length (deposits_in bytes) * 184 = read_long bytes (deposits_in bytes) are.bytes_are are.reads in omega arith

-- ---- the first of them

first_by : (o : Option DepositData) (r : Option (List DepositData)) (all : List DepositData) → (o and_then λ x. r and_then λ xs. Some (x ∷ xs)) ≡ Some all
    → (d : DepositData) × (ds : List DepositData) × (o ≡ Some d) × (r ≡ Some ds) × (all ≡ d ∷ ds)
first_by None r all is = absurd cc
first_by (Some d) None all is = absurd cc
first_by (Some d) (Some ds) all is = (d, ds, refl, refl, ap or_none (sym is))

items_are : (count : ℕ) (bytes : List ℕ) → 184 ≤ length bytes
    → parse_items deposit_data_codec.deserialize 184 (suc count) bytes ≡ (deposit_data_codec.deserialize (take 184 bytes) and_then λ x. parse_items deposit_data_codec.deserialize 184 count (drop 184 bytes) and_then λ xs. Some (x ∷ xs))
unfolding parse_items
items_are count bytes long =
    ap (λ (b : Bool). cond b None (deposit_data_codec.deserialize (take 184 bytes) and_then λ x. parse_items deposit_data_codec.deserialize 184 count (drop 184 bytes) and_then λ xs. Some (x ∷ xs))) (le-ltb (length bytes) 184 long)

-- the first deposit is read from the first bytes, and the others from those behind them
pub record IsFirst (bytes : List ℕ) (d : DepositData) : Type 0 where
  pub read : deposit_data_codec.deserialize (take 184 bytes) ≡ Some d
  pub others : AreDeposits (drop 184 bytes)
  pub all : deposits_in bytes ≡ d ∷ deposits_in (drop 184 bytes)

pub first_of_all : (bytes : List ℕ) → AreDeposits bytes → 0 < length (deposits_in bytes) → (d : DepositData) × IsFirst bytes d
unfolding deposits_in
first_of_all bytes are some =
    let count : ℕ = length (deposits_in bytes) - 1 in
    let long : length bytes ≡ length (deposits_in bytes) * 184 = read_long bytes (deposits_in bytes) are.bytes_are are.reads in
    let few : length (deposits_in bytes) ≤ 2 ^ 32 = few_of bytes are in
    let number : length bytes / 184 ≡ suc count = omega arith in
    let behind : length (drop 184 bytes) / 184 ≡ count = omega (arith, length-drop 184 bytes) in
    let items = first_by _ _ (deposits_in bytes)
    (sym (items_are count bytes (omega arith)) ∙ ap (λ (n : ℕ). parse_items deposit_data_codec.deserialize 184 n bytes) (sym number) ∙ sym (list_is bytes (omega arith)) ∙ are.reads) in
    let rest : deposits_codec.deserialize (drop 184 bytes) ≡ Some items.1 =
    list_is (drop 184 bytes) (omega arith) ∙ ap (λ (n : ℕ). parse_items deposit_data_codec.deserialize 184 n (drop 184 bytes)) behind ∙ items.3 in (
      items.0,
      record {
        read = items.2;
        others = deposits_are (drop 184 bytes) items.1 (IsBytes-drop 184 bytes are.bytes_are) rest;
        all = items.4 ∙ ap (λ (ds : List DepositData). items.0 ∷ ds) (sym (ap or_none rest));
      },
    )

-- the bytes of the first are a deposit's
pub no_fault : (bytes part : List ℕ) (r : Result DepositData SszFault) → AreDeposits bytes → 0 < length (deposits_in bytes) → part ≡ take 184 bytes → r ≡ Err NotAWriting → ReadsAs r (deposit_data_codec.deserialize part) → ⊥
no_fault bytes part r are some is fault reads =
    let first = first_of_all bytes are some in
    let unread : deposit_data_codec.deserialize part ≡ None = subst (λ (x : Result DepositData SszFault). ReadsAs x (deposit_data_codec.deserialize part)) fault reads in
    let e : Some first.0 ≡ None = sym first.1.read ∙ ap deposit_data_codec.deserialize (sym is) ∙ unread in
    cc

-- it is the one that is read from them
some_is : (a b : DepositData) → Some a ≡ Some b → a ≡ b
some_is a b e = ap (λ (o : Option DepositData). or_first a o) e
  where
    or_first : DepositData → Option DepositData → DepositData
    or_first d None = d
    or_first d (Some x) = x

pub taken : (bytes part rest : List ℕ) (d : DepositData) → AreDeposits bytes → 0 < length (deposits_in bytes) → part ≡ take 184 bytes → rest ≡ drop 184 bytes → deposit_data_codec.deserialize part ≡ Some d
    → AreDeposits rest × (deposits_in bytes ≡ d ∷ deposits_in rest)
taken bytes part rest d are some is behind read =
    let first = first_of_all bytes are some in
    let same : first.0 ≡ d = some_is first.0 d (sym first.1.read ∙ ap deposit_data_codec.deserialize (sym is) ∙ read) in (
      subst AreDeposits (sym behind) first.1.others,
      first.1.all ∙ ap (λ (x : DepositData). x ∷ deposits_in (drop 184 bytes)) same ∙ ap (λ (bs : List ℕ). d ∷ deposits_in bs) (sym behind),
    )
