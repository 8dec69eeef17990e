-- One validator more.
use Rattle.std.proofs.Common.{List, [], ◌∷◌, ◌++◌, ◌∙◌, sym, ap₂, arith}
use Rattle.std.proofs.lemmas.List.FromFn.{map-range_with_len_more}
use Rattle.beacon_types.specs.declared.validator.Validator.{Validator}
use Rattle.spec_drill.specs.MakeGenesis.{made_validator}
use Rattle.chain_maker.proofs.genesis.made_validators.Goals as goal

pub loop-index-preserved : goal.loop-index-preserved
loop-index-preserved c =
    c.in_ok-push.ensures.ok ∙ (ap₂ (λ (xs : List Validator) (x : Validator). xs ++ x ∷ []) c.loop-index.invariant c.made_validator.ensures
    ∙ sym (map-range_with_len_more (made_validator c.args.number) 0 c.loop-index.index c.loop-index.index (omega arith)))
