use Rattle.std.proofs.Common.{ℕ, List, sym, subst}
use Rattle.block_operations.specs.inside.Notes.{Notes}
use Rattle.block_operations.proofs.Registry.{front_grows}
use Rattle.block_operations.proofs.pubkey_index.PubkeyIndex.note_at.Goals as goal

pub returns : goal.returns
returns c =
    front_grows c.args.self.now c.note.new.self c.args.state.now.validators c.in-Some.validator c.args.index (sym c.in-Some.ensures) c.requires.front
    (subst (λ (key : List ℕ). Notes c.args.self.now c.note.new.self key c.args.index) c.pubkey.ensures c.in_ok-note-in-Some.ensures)
