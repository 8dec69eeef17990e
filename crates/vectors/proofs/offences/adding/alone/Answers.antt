-- There is one attester.
use Rattle.std.proofs.Common.{rules, ◌≡◌, ◌∷◌, [], ℕ, List, map, sym, subst}
use Rattle.forensics.specs.Room.{StandOnce}
use Rattle.vectors.proofs.Alone.{stands_once}
use Rattle.vectors.proofs.offences.adding.alone.Goals as goal

pub returns-clause-once : goal.returns-clause-once
returns-clause-once c =
    let one : map (λ l. l.items) c.push-2.new.self.items ≡ (c.args.validator ∷ []) ∷ [] = search rules in
    subst (λ (lists : List (List ℕ)). StandOnce lists) (sym one) (stands_once c.args.validator)
