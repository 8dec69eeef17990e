-- Bytes that a codec does not read are no writing.
use Rattle.std.proofs.Common.{◌≡◌, ℕ, List, Option, Some, None, ap, ◌∙◌}
use Rattle.ssz_codec.specs.declared.fault.SszFault.{SszFault}
use Rattle.ssz_codec.specs.declared.fault.SszFault.TheVariants.{NotAWriting, NoMemory}
use Rattle.ssz_codec.specs.Codec.{Codec}
use Rattle.ssz_codec.specs.Lawful.{IsLawful}
use Rattle.ssz_codec.specs.Reads.{Fails, IsUnread}
use Rattle.bc_preset.specs.declared.presets.Preset.{Preset}
use Rattle.spec_state.specs.declared.plain.PlainState.{PlainState}
use Rattle.spec_state.specs.States.{state_codec}
use Rattle.spec_state.proofs.StateLaws.{state_lawful}

none_some : {A : Type 0} (o : Option A) (x : A) → o ≡ None → o ≡ Some x → ⊥
none_some o x e h = absurd cc

pub is_unread : {A : Type 0} (c : Codec A) → IsLawful c → (e : SszFault) (bytes : List ℕ) → Fails e (c.deserialize bytes) → IsUnread c e bytes
is_unread c law NoMemory bytes h = tt
is_unread c law NotAWriting bytes h = λ x within is. none_some (c.deserialize bytes) x h (ap c.deserialize is ∙ law.complete x within)

pub state_again : (p : Preset) (s : PlainState) → (state_codec p).Within s → (state_codec p).deserialize ((state_codec p).serialize s) ≡ Some s
state_again p s within = (state_lawful p).complete s within

some_one : {A : Type 0} (o : Option A) (x y : A) → o ≡ Some x → o ≡ Some y → x ≡ y
some_one o x y e h = cc

pub one_state : (p : Preset) (s t : PlainState) → (state_codec p).Within s → (state_codec p).Within t → (state_codec p).serialize s ≡ (state_codec p).serialize t → s ≡ t
one_state p s t in_s in_t e = some_one _ s t (state_again p s in_s) (ap (state_codec p).deserialize e ∙ state_again p t in_t)
