-- Calls to the operating system that failed, and those that are made again.
use Rattle.std.specs.Prelude.{◌≡◌, ℕ, ◌+◌, ◌<◌, ◌⊎◌, min, Result, Ok, Err}
use Rattle.bc_outside.specs.declared.trouble.Trouble.{Trouble}
use Rattle.bc_outside.specs.declared.trouble.Trouble.TheVariants.{Failed, NoMemory}
use Rattle.bc_outside.specs.declared.faults.FaultCounts.{FaultCounts}

-- no call failed yet
abbrev pub no_faults : FaultCounts
no_faults = record { interrupted = 0; others = 0 }

-- all faults, up to the last number of 64 bits
abbrev pub all_faults : FaultCounts → ℕ
all_faults counts = min (counts.interrupted + counts.others) 18446744073709551615

-- k more calls were interrupted
abbrev pub interrupted_by : ℕ → FaultCounts → FaultCounts
interrupted_by k counts = record { interrupted = min (counts.interrupted + k) 18446744073709551615; others = counts.others }

-- one more call failed otherwise
abbrev pub failed_otherwise : FaultCounts → FaultCounts
failed_otherwise counts = record { interrupted = counts.interrupted; others = min (counts.others + 1) 18446744073709551615 }

-- A call is made again only where it was interrupted, and at most 1,000 times in all: it succeeds behind fewer than 1,000
-- interrupted ones, or fails otherwise behind as many, or all 1,000 were interrupted. Without memory none is made.
abbrev pub Tries : {T : Type 0} → Result T Trouble → FaultCounts → FaultCounts → Type 0
Tries (Ok _) old new = (k : ℕ) × (k < 1000) × (new ≡ interrupted_by k old)
Tries (Err Failed) old new = (k : ℕ) × (((k < 1000) × (new ≡ failed_otherwise (interrupted_by k old))) ⊎ ((k ≡ 1000) × (new ≡ interrupted_by k old)))
Tries (Err NoMemory) old new = new ≡ old
