-- The attester slashings that two histories give, and the record of them that is written.
use Rattle.std.proofs.Common.{◌≡◌, ℕ, ◌*◌, ◌≤◌, List, [], ◌∷◌, ◌++◌, length, Ok, refl, arith, length-append}
use Rattle.std.specs.Prelude.{flat_map}
use Rattle.bc_outside.specs.Told.{SinkTold}
use Rattle.hash_tree.specs.Merkle.{uint_to_bytes}
use Rattle.ssz_codec.specs.Basic.{uint64}
use Rattle.ssz_codec.specs.Layout.{fixed_parts, joined, offset_bytes, variable_parts}
use Rattle.ssz_codec.specs.laws.Layout.{offset_len}
use Rattle.beacon_types.specs.Containers.{attestation_data_codec, checkpoint_codec, indexed_attestation_codec}
use Rattle.beacon_types.specs.declared.attestation_data.AttestationData.{AttestationData}
use Rattle.beacon_types.specs.declared.checkpoint.Checkpoint.{Checkpoint}
use Rattle.beacon_types.specs.declared.indexed_attestation.IndexedAttestation.{IndexedAttestation}
use Rattle.beacon_types.specs.Blocks.{attester_slashing_codec}
use Rattle.beacon_types.specs.declared.attester_slashing.AttesterSlashing.{AttesterSlashing}
use Rattle.spec_state.specs.declared.plain.PlainState.{PlainState}
use Rattle.spec_fork_choice.specs.Store.{Store}
use Rattle.spec_forensics.specs.Histories.{AcceptedBlock}
use Rattle.spec_slasher.specs.Operations.{operations}
use Rattle.spec_slasher.proofs.Operations.{all_slashable, common_offends, offender_named}
use Rattle.spec_slasher.proofs.Processed.{all_processed}
use Rattle.spec_slasher.proofs.Taken.{all_taken}
use Rattle.spec_replay.specs.Run.{after_lines, done, over}
use Rattle.spec_replay.specs.Forensic.{judge, told_of}
use Rattle.spec_replay.specs.Slasher.{slashing_record}
use Rattle.spec_replay.specs.declared.report.Report.TheVariants.{Slashings}
use Rattle.safety_law.specs.Follows.{Follows}
use Rattle.forensics.specs.Books.{PlainBook, history_of}
use Rattle.one_chain.specs.declared.status.Status.{Status}
use Rattle.one_chain.specs.inside.AtEnd.{Concludes}
use Rattle.beacon_node.specs.Slashings.{Accuses, WritesSlashings}

-- ---- how long a writing is

eight : (n : ℕ) → length (uint_to_bytes n) ≡ 8
unfolding uint_to_bytes
eight n = refl

numbers_size : (ns : List ℕ) → length (flat_map uint64.serialize ns) ≡ 8 * length ns
numbers_size [] = omega arith
numbers_size (n ∷ ns) =
    let one = eight n in
    let rest = numbers_size ns in
    let both = length-append (uint64.serialize n) (flat_map uint64.serialize ns) in
    omega (arith, one, rest, both)

checkpoint_size : (c : Checkpoint) → length c.root ≡ 32 → length (checkpoint_codec.serialize c) ≡ 40
unfolding joined fixed_parts variable_parts
checkpoint_size c root =
    let a = length-append (uint_to_bytes c.epoch ++ (c.root ++ [])) [] in
    let b = length-append (uint_to_bytes c.epoch) (c.root ++ []) in
    let d = length-append c.root [] in
    let e = eight c.epoch in
    omega (arith, root, a, b, d, e)

five_parts : (one two three four last : List ℕ) → length one ≡ 8 → length two ≡ 8 → length three ≡ 32 → length four ≡ 40 → length last ≡ 40
    → length ((one ++ (two ++ (three ++ (four ++ (last ++ []))))) ++ []) ≡ 128
five_parts one two three four last a b c d e =
    let f = length-append (one ++ (two ++ (three ++ (four ++ (last ++ []))))) [] in
    let g = length-append one (two ++ (three ++ (four ++ (last ++ [])))) in
    let h = length-append two (three ++ (four ++ (last ++ []))) in
    let i = length-append three (four ++ (last ++ [])) in
    let j = length-append four (last ++ []) in
    let k = length-append last [] in
    omega (arith, a, b, c, d, e, f, g, h, i, j, k)

pub content_size : (c : AttestationData) → length c.beacon_block_root ≡ 32 → length c.source.root ≡ 32 → length c.target.root ≡ 32 → length (attestation_data_codec.serialize c) ≡ 128
unfolding joined fixed_parts variable_parts
content_size c block source target =
    five_parts (uint_to_bytes c.slot) (uint_to_bytes c.index) c.beacon_block_root (checkpoint_codec.serialize c.source) (checkpoint_codec.serialize c.target) (eight c.slot) (eight c.index) block
    (checkpoint_size c.source source) (checkpoint_size c.target target)

three_parts : (offset : ℕ) (list content signature : List ℕ) (n : ℕ) → length list ≡ 8 * n → length content ≡ 128 → length signature ≡ 96 → n ≤ 2048
    → length ((offset_bytes offset ++ (content ++ (signature ++ []))) ++ (list ++ [])) ≤ 16_612
three_parts offset list content signature n a b c few =
    let d = length-append (offset_bytes offset ++ (content ++ (signature ++ []))) (list ++ []) in
    let e = length-append (offset_bytes offset) (content ++ (signature ++ [])) in
    let f = length-append content (signature ++ []) in
    let g = length-append signature [] in
    let h = length-append list [] in
    let i = offset_len offset in
    omega (arith, a, b, c, d, e, f, g, h, i, few)

pub vote_size : (v : IndexedAttestation) → length v.attesting_indices ≤ 2048 → length (attestation_data_codec.serialize v.content) ≡ 128 → length v.signature ≡ 96
    → length (indexed_attestation_codec.serialize v) ≤ 16_612
unfolding joined fixed_parts variable_parts
vote_size v few content signature =
    three_parts 228 (flat_map uint64.serialize v.attesting_indices) (attestation_data_codec.serialize v.content) v.signature (length v.attesting_indices) (numbers_size v.attesting_indices) content signature few

two_parts : (a b : ℕ) (one other : List ℕ) → length one ≤ 16_612 → length other ≤ 16_612 → length ((offset_bytes a ++ (offset_bytes b ++ [])) ++ (one ++ (other ++ []))) ≤ 33_232
two_parts a b one other c d =
    let e = length-append (offset_bytes a ++ (offset_bytes b ++ [])) (one ++ (other ++ [])) in
    let f = length-append (offset_bytes a) (offset_bytes b ++ []) in
    let g = length-append (offset_bytes b) [] in
    let h = length-append one (other ++ []) in
    let i = length-append other [] in
    let j = offset_len a in
    let k = offset_len b in
    omega (arith, c, d, e, f, g, h, i, j, k)

pub slashing_size : (s : AttesterSlashing) → length (indexed_attestation_codec.serialize s.attestation_1) ≤ 16_612 → length (indexed_attestation_codec.serialize s.attestation_2) ≤ 16_612
    → length (attester_slashing_codec.serialize s) ≤ 33_232
unfolding joined fixed_parts variable_parts
slashing_size s first second = two_parts _ _ (indexed_attestation_codec.serialize s.attestation_1) (indexed_attestation_codec.serialize s.attestation_2) first second

-- ---- what is written

pub accuses : (genesis : PlainState) (first second : List AcceptedBlock) → Accuses genesis first second (operations genesis first second)
accuses genesis first second = record {
  slashable = all_slashable genesis first second;
  accused = λ index. (λ h. common_offends genesis first second index h.0 h.1, λ h. offender_named genesis first second index h);
  processed = all_processed genesis first second;
  taken = all_taken genesis first second;
}

module _ (book : PlainBook) where
  abbrev given : List AttesterSlashing
  given = operations book.genesis book.first book.second

  pub slashings_conclude : (a b : Store) (status : Status) {p q : SinkTold} → Concludes status (after_lines (slashing_record given) (over done)) p q
      → Concludes status (judge Slashings book.genesis (record { store = a; history = history_of book 0 }) (Ok (record { store = b; history = history_of book 1 }))) p q
  unfolding judge told_of history_of
  slashings_conclude a b status h = h

  pub slashings_written : (a b : Store) (written written_then : List ℕ) → Follows book.config book.genesis (history_of book 0) a → Follows book.config book.genesis (history_of book 1) b
      → written_then ≡ written ++ slashing_record given → WritesSlashings written written_then
  unfolding history_of
  slashings_written a b written written_then follows_a follows_b is = record {
    config = book.config;
    genesis = book.genesis;
    first = book.first;
    second = book.second;
    first_is = follows_a.is_history;
    second_is = follows_b.is_history;
    bytes = is;
    accuses = accuses book.genesis book.first book.second;
  }
