-- What a file of deposits makes: a genesis file, or its first fault.
use Rattle.std.proofs.Common.{◌≡◌, ◌∙◌, ℕ, ◌+◌, ◌*◌, ◌^◌, ◌<◌, ◌≤◌, Bool, true, false, not, cond, ltb, List, [], length, take, drop, Option, Some, None, Result, Ok, Err, refl, ap, subst, arith}
use Rattle.std.specs.List.{AllByRecursion}
use Rattle.std.specs.Str.{bytes_eq}
use Rattle.std.proofs.lemmas.Bool.{ltb-false, eq-eqb}
use Rattle.std.proofs.lemmas.List.{length-take, length-drop}
use Rattle.hash_tree.specs.Merkle.{bytes_to_uint64}
use Rattle.ssz_codec.specs.Lawful.{IsBytes}
use Rattle.ssz_codec.specs.laws.Basic.{uint64_lawful}
use Rattle.ssz_codec.specs.laws.Lists.{list_lawful}
use Rattle.ssz_codec.specs.laws.Layout.{IsBytes-take, IsBytes-drop}
use Rattle.bc_preset.specs.declared.presets.Preset.{Preset}
use Rattle.bc_preset.specs.Presets.{IsPreset}
use Rattle.beacon_types.specs.declared.deposit_data.DepositData.{DepositData}
use Rattle.beacon_types.specs.Containers.{deposit_data_codec}
use Rattle.beacon_types.specs.laws.Containers.{deposit_data_lawful, deposit_data_fixed}
use Rattle.spec_state.specs.declared.plain.PlainState.{PlainState}
use Rattle.spec_genesis.specs.declared.fault.DepositsFault.{DepositsFault}
use Rattle.spec_genesis.specs.Branches.{deposits_codec}
use Rattle.spec_genesis.specs.InitializeBeaconStateFromEth1.{Initialized, made, refused_at, limited_at, initialize_beacon_state_from_eth1}
use Rattle.spec_genesis.specs.DepositsFile.{DepositsFile, deposits_magic, with_deposits, deposits_file_of, made_file, made_of, genesis_file_of}
use Rattle.spec_genesis.proofs.MadeState.{IsGiven}
use Rattle.spec_genesis.proofs.Written.{sized}
use Rattle.spec_genesis.proofs.Genesis.{IsWritten, genesis_of_deposits, made_is_written}
use Rattle.spec_genesis.specs.Overflows.{first_overflow}
use Rattle.spec_genesis.specs.MadeGenesis.{EndsBy, MakesGenesis}

-- what a file that is read is
pub record IsFile (file : DepositsFile) : Type 0 where
  pub given : IsGiven file.fork_version file.eth1_block_hash file.genesis_time (length file.deposits)
  pub within : AllByRecursion deposit_data_codec.Within file.deposits
  pub short : length file.deposits * 184 + 48 ≤ 2 ^ 30

past : {A E : Type 0} (b : Bool) (e : E) (rest : Result A E) (x : A) → cond b (Err e) rest ≡ Ok x → (b ≡ false) × (rest ≡ Ok x)
past true e rest x is = absurd cc
past false e rest x is = (refl, is)

value_or : {A E : Type 0} → A → Result A E → A
value_or x (Ok y) = y
value_or x (Err e) = x

same_ok : {A : Type 0} (x y : A) → (let l : Result A DepositsFault = Ok x in l) ≡ Ok y → x ≡ y
unfolding value_or
same_ok x y e = ap (value_or x) e

time_fits : (bytes : List ℕ) → IsBytes bytes → length bytes ≡ 8 → bytes_to_uint64 bytes < 2 ^ 64
time_fits bytes fits long = (uint64_lawful.sound bytes (bytes_to_uint64 bytes) fits (ap (λ (b : Bool). cond b (Some (bytes_to_uint64 bytes)) None) (eq-eqb (length bytes) 8 long))).0

file_by : (bytes : List ℕ) (file : DepositsFile) (o : Option (List DepositData)) → IsBytes bytes → length bytes ≤ 2 ^ 30 → 48 ≤ length bytes → deposits_codec.deserialize (drop 48 bytes) ≡ o → with_deposits (take 48 bytes) o ≡ Ok file → IsFile file
unfolding with_deposits
file_by bytes file None fits low high read is = absurd cc
file_by bytes file (Some deposits) fits low high read is =
    let head = take 48 bytes in
    let long : length head ≡ 48 = omega (arith, length-take 48 bytes) in
    let head_fits : IsBytes head = IsBytes-take 48 bytes fits in
    let list = (list_lawful deposit_data_codec (2 ^ 32) deposit_data_fixed deposit_data_lawful).sound (drop 48 bytes) deposits (IsBytes-drop 48 bytes fits) read in
    let count : length (drop 48 bytes) ≡ length deposits * 184 = ap length list.1 ∙ sized 184 deposit_data_codec deposits (λ d w. deposit_data_lawful.size d w) list.0.1 in
    subst IsFile (same_ok _ file is) (record {
      given = record {
        version_within = (length-take 4 (drop 4 head) ∙ omega (arith, length-drop 4 head), IsBytes-take 4 (drop 4 head) (IsBytes-drop 4 head head_fits));
        time_fits = time_fits (take 8 (drop 8 head)) (IsBytes-take 8 (drop 8 head) (IsBytes-drop 8 head head_fits)) (length-take 8 (drop 8 head) ∙ omega (arith, length-drop 8 head));
        hash_within = (length-drop 16 head ∙ omega arith, IsBytes-drop 16 head head_fits);
        few = list.0.0;
      };
      within = list.0.1;
      short = omega (arith, length-drop 48 bytes);
    })

pub file_is : (bytes : List ℕ) (file : DepositsFile) → IsBytes bytes → deposits_file_of bytes ≡ Ok file → IsFile file
unfolding deposits_file_of
file_is bytes file fits is =
    let low = past (ltb 1073741824 (length bytes)) _ _ file is in
    let magic = past (not (bytes_eq (take 4 bytes) deposits_magic)) _ _ file low.1 in
    let high = past (ltb (length bytes) 48) _ _ file magic.1 in
    file_by bytes file (deposits_codec.deserialize (drop 48 bytes)) fits (ltb-false 1073741824 (length bytes) low.0) (ltb-false (length bytes) 48 high.0) refl high.1

-- ---- what it makes

made_by : (p : Preset) (end : Initialized) (o : Option ℕ) → EndsBy end o → ((u : PlainState) → end ≡ made u → IsWritten p u) → MakesGenesis p (made_file end)
made_by p (made u) None genesis written = (u, (written u refl).2, genesis)
made_by p (made u) (Some i) genesis written = absurd genesis
made_by p (refused_at i why) o ends written = tt
made_by p (limited_at i bound) o ends written = tt

makes_by : (p : Preset) (bytes : List ℕ) (r : Result DepositsFile DepositsFault) → IsPreset p → IsBytes bytes → deposits_file_of bytes ≡ r → MakesGenesis p (made_of p r)
makes_by p bytes (Err fault) preset fits is = tt
makes_by p bytes (Ok file) preset fits is =
    let read = file_is bytes file fits is in
    made_by p (initialize_beacon_state_from_eth1 p file.fork_version file.eth1_block_hash file.genesis_time file.deposits) (first_overflow [] file.deposits)
    (genesis_of_deposits p file.fork_version file.eth1_block_hash file.genesis_time file.deposits preset read.given read.within)
    (λ u ends. made_is_written p file.fork_version file.eth1_block_hash file.genesis_time file.deposits u preset read.given (let short = read.short in omega arith) read.within ends)

-- a file of deposits makes a genesis file, whose state is sound
pub makes_genesis : (p : Preset) (bytes : List ℕ) → IsPreset p → IsBytes bytes → MakesGenesis p (genesis_file_of p bytes)
unfolding genesis_file_of
makes_genesis p bytes preset fits = makes_by p bytes (deposits_file_of bytes) preset fits refl
