-- The plan of the code's fields.
use Rattle.spec_drill.specs.Plan.{Plan}
use Rattle.chain_maker.specs.declared.plan.Plan.TheInside.{Inside}

abbrev pub plan_of : Inside → Plan
plan_of plan = record { config = plan.config; number = plan.number; which = plan.which }
