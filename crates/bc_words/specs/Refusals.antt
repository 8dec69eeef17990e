-- The numbers and the names of the refusals, as a run prints them.
use Rattle.std.specs.Prelude.{ℕ, List, codes}
use Rattle.bc_words.specs.declared.refusal.Refusal.{Refusal}
use Rattle.bc_words.specs.declared.refusal.Refusal.TheVariants.{TickBack, Malformed, ParentUnknown, FutureBlock, BeforeFinalized, NotOnFinalized, SlotNotLater, NoActive, WrongProposer, ProposerSlashed, DepositCount, PsSlots, PsProposers, PsSame, IndexRange, NotSlashable, AsData, AsIndices, AsNone, AtTargetEpoch, AtSlotEpoch, AtEarly, AtLate, AtIndex, AtBits, AtSource, ListFull, AtEmpty, DpBranch, ExInactive, ExLeaving, ExEarly, ExYoung, StateRoot, Overflow, FcTargetTime, FcSlotEpoch, FcTargetUnknown, FcBlockUnknown, FcBlockAfter, FcTargetChain, FcTooEarly, FcCommittee, FcBitsShort, FcEmpty}

-- the number of a refusal
unfoldable pub number_of : Refusal → ℕ
number_of TickBack = 1
number_of Malformed = 2
number_of ParentUnknown = 3
number_of FutureBlock = 4
number_of BeforeFinalized = 5
number_of NotOnFinalized = 6
number_of SlotNotLater = 7
number_of NoActive = 8
number_of WrongProposer = 9
number_of ProposerSlashed = 10
number_of DepositCount = 11
number_of PsSlots = 12
number_of PsProposers = 13
number_of PsSame = 14
number_of IndexRange = 15
number_of NotSlashable = 16
number_of AsData = 17
number_of AsIndices = 18
number_of AsNone = 19
number_of AtTargetEpoch = 20
number_of AtSlotEpoch = 21
number_of AtEarly = 22
number_of AtLate = 23
number_of AtIndex = 24
number_of AtBits = 25
number_of AtSource = 26
number_of ListFull = 27
number_of AtEmpty = 28
number_of DpBranch = 29
number_of ExInactive = 30
number_of ExLeaving = 31
number_of ExEarly = 32
number_of ExYoung = 33
number_of StateRoot = 34
number_of Overflow = 35
number_of FcTargetTime = 36
number_of FcSlotEpoch = 37
number_of FcTargetUnknown = 38
number_of FcBlockUnknown = 39
number_of FcBlockAfter = 40
number_of FcTargetChain = 41
number_of FcTooEarly = 42
number_of FcCommittee = 43
number_of FcBitsShort = 44
number_of FcEmpty = 45

-- the name of a refusal, in bytes
unfoldable pub name_of : Refusal → List ℕ
name_of TickBack = codes "TickBack"
name_of Malformed = codes "Malformed"
name_of ParentUnknown = codes "ParentUnknown"
name_of FutureBlock = codes "FutureBlock"
name_of BeforeFinalized = codes "BeforeFinalized"
name_of NotOnFinalized = codes "NotOnFinalized"
name_of SlotNotLater = codes "SlotNotLater"
name_of NoActive = codes "NoActive"
name_of WrongProposer = codes "WrongProposer"
name_of ProposerSlashed = codes "ProposerSlashed"
name_of DepositCount = codes "DepositCount"
name_of PsSlots = codes "PsSlots"
name_of PsProposers = codes "PsProposers"
name_of PsSame = codes "PsSame"
name_of IndexRange = codes "IndexRange"
name_of NotSlashable = codes "NotSlashable"
name_of AsData = codes "AsData"
name_of AsIndices = codes "AsIndices"
name_of AsNone = codes "AsNone"
name_of AtTargetEpoch = codes "AtTargetEpoch"
name_of AtSlotEpoch = codes "AtSlotEpoch"
name_of AtEarly = codes "AtEarly"
name_of AtLate = codes "AtLate"
name_of AtIndex = codes "AtIndex"
name_of AtBits = codes "AtBits"
name_of AtSource = codes "AtSource"
name_of ListFull = codes "ListFull"
name_of AtEmpty = codes "AtEmpty"
name_of DpBranch = codes "DpBranch"
name_of ExInactive = codes "ExInactive"
name_of ExLeaving = codes "ExLeaving"
name_of ExEarly = codes "ExEarly"
name_of ExYoung = codes "ExYoung"
name_of StateRoot = codes "StateRoot"
name_of Overflow = codes "Overflow"
name_of FcTargetTime = codes "FcTargetTime"
name_of FcSlotEpoch = codes "FcSlotEpoch"
name_of FcTargetUnknown = codes "FcTargetUnknown"
name_of FcBlockUnknown = codes "FcBlockUnknown"
name_of FcBlockAfter = codes "FcBlockAfter"
name_of FcTargetChain = codes "FcTargetChain"
name_of FcTooEarly = codes "FcTooEarly"
name_of FcCommittee = codes "FcCommittee"
name_of FcBitsShort = codes "FcBitsShort"
name_of FcEmpty = codes "FcEmpty"
