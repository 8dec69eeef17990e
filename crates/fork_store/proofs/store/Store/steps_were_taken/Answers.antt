use Rattle.std.proofs.Common.{◌<◌, ℕ, length, subst}
use Rattle.fork_store.specs.KeptSteps.{IsStepOfParent}
use Rattle.fork_store.proofs.Again.{steps_of_parents}
use Rattle.fork_store.specs.Seen.{Seen}
use Rattle.fork_store.proofs.store.Store.steps_were_taken.Goals as goal

pub returns : goal.returns
returns c =
    subst (λ (s : Seen). (n : ℕ) → 0 < n → n < length s.plain.blocks → IsStepOfParent s.plain s.keeper n) c.self.view_is
    (steps_of_parents c.self.inside.fields c.self.inside.keeper c.self.invariant.keeper_of c.is_sound.ensures.kept c.is_sound.ensures.store.tree c.steps_were_taken.ensures)
