-- The next of the attestations that are given one after another.
use Rattle.std.proofs.Common.{◌≡◌, ◌∙◌, ℕ, zero, suc, ◌+◌, ◌<◌, List, [], ◌∷◌, map, drop, length, slice_index_or, subst, Some, Ok, refl, sym, ap, add-one, arith}
use Rattle.std.specs.List.{slice_get}
use Rattle.beacon_types.specs.declared.attestation.Attestation.{Attestation}
use Rattle.beacon_types.specs.Blocks.{attestation_codec}
use Rattle.spec_drill.specs.Make.{kind_of, payload_of}
use Rattle.chain_maker.specs.declared.votes.Source.{Source}
use Rattle.chain_maker.specs.declared.votes.Source.TheVariants.{Wire, Carried}
use Rattle.chain_maker.specs.declared.votes.Votes.{Votes}
use Rattle.chain_maker.specs.Next.{Writes}
use Rattle.chain_maker.specs.inside.Votes.{from_source, source_kind, NextVote}

-- what stands at a place
there : (xs : List Attestation) (i : ℕ) (x : Attestation) → i < length xs → x ≡ slice_index_or xs i x → slice_get xs i ≡ Some x
there [] i x low is = absurd (omega arith)
there (y ∷ xs) zero x low is = ap Some (sym is)
there (y ∷ xs) (suc i) x low is = there xs i x (omega arith) is

pub item_at : (all seen : List Attestation) (i : ℕ) (x : Attestation) → seen ≡ all → i < length seen → x ≡ slice_index_or seen i x → slice_get all i ≡ Some x
item_at all seen i x same low is = subst (λ (xs : List Attestation). slice_get xs i ≡ Some x) same (there seen i x low is)

drop_next : (xs : List Attestation) (i : ℕ) (x : Attestation) → slice_get xs i ≡ Some x → drop i xs ≡ x ∷ drop (i + 1) xs
drop_next [] i x e = absurd cc
drop_next (y ∷ xs) zero x e = let same : y ≡ x = cc in ap (λ (z : Attestation). z ∷ xs) same
drop_next (y ∷ xs) (suc i) x e = drop_next xs i x e ∙ (let same : drop (i + 1) xs ≡ drop (suc i + 1) (y ∷ xs) = rw (add-one, add-one) refl in ap (λ (zs : List Attestation). x ∷ zs) same)

written : (source : Source) (vote : Attestation) (kind : ℕ) (payload : List ℕ) → kind ≡ source_kind source → payload ≡ attestation_codec.serialize vote
    → Writes (record { kind = kind; payload = payload }) (from_source source vote)
unfolding kind_of payload_of
written Wire vote kind payload k p = record { kind = k; payload = p }
written Carried vote kind payload k p = record { kind = k; payload = p }

pub next_vote : (votes : Votes) (vote : Attestation) (kind : ℕ) (payload : List ℕ) → slice_get votes.all votes.given ≡ Some vote → kind ≡ source_kind votes.source
    → payload ≡ attestation_codec.serialize vote → NextVote (Ok (Some (record { kind = kind; payload = payload }))) votes (record votes { given = votes.given + 1 })
next_vote votes vote kind payload at k p =
    (from_source votes.source vote, written votes.source vote kind payload k p, ap (map (from_source votes.source)) (drop_next votes.all votes.given vote at))
