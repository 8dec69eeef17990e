-- The parts of the text of a vote.
use Rattle.std.specs.Prelude.{ℕ, List, ◌++◌, codes}
use Rattle.std.specs.Fmt.{decimal}
use Rattle.beacon_types.specs.declared.attestation_data.AttestationData.{AttestationData}
use Rattle.spec_replay.specs.Lines.{root_text, checkpoint_text}
use Rattle.spec_replay.specs.OffenceLines.{history_text}
use Rattle.spec_forensics.specs.declared.vote.Vote.{Vote}

-- where it stands
abbrev pub place_text : Vote → List ℕ
place_text vote = history_text vote.which ++ (codes "/" ++ (decimal vote.event ++ (codes "/" ++ (decimal vote.position ++ (codes "/" ++ root_text vote.block_root)))))

-- what it is for
abbrev pub content_text : AttestationData → List ℕ
content_text content =
    codes "/" ++ (decimal content.slot
    ++ (codes "/" ++ (decimal content.index
    ++ (codes "/" ++ (root_text content.beacon_block_root
    ++ (codes "/" ++ (checkpoint_text content.source
    ++ (codes "/" ++ checkpoint_text content.target))))))))
