-- The text of the line of an offence. A text is the list of its bytes.
use Rattle.std.specs.Prelude.{ℕ, List, [], ◌∷◌, ◌++◌, codes, ◌==◌, if◌then◌else◌}
use Rattle.std.specs.Fmt.{decimal}
use Rattle.spec_replay.specs.Lines.{root_text, checkpoint_text}
use Rattle.spec_forensics.specs.declared.vote.Vote.{Vote}
use Rattle.spec_forensics.specs.declared.offence.Offence.{Offence}
use Rattle.spec_forensics.specs.declared.offence.OffenceKind.{OffenceKind}
use Rattle.spec_forensics.specs.declared.offence.OffenceKind.TheVariants.{Double, Surround}

-- the letter of a history
unfoldable pub history_text : ℕ → List ℕ
history_text which = if which == 0 then codes "a" else codes "b"

-- a vote: <a|b>/<event>/<position>/<block root>/<slot>/<index>/<beacon_block_root>/<source>/<target>
unfoldable pub vote_text : Vote → List ℕ
vote_text vote =
    history_text vote.which
    ++ (codes "/" ++ (decimal vote.event
    ++ (codes "/" ++ (decimal vote.position
    ++ (codes "/" ++ (root_text vote.block_root
    ++ (codes "/" ++ (decimal vote.content.slot
    ++ (codes "/" ++ (decimal vote.content.index
    ++ (codes "/" ++ (root_text vote.content.beacon_block_root
    ++ (codes "/" ++ (checkpoint_text vote.content.source
    ++ (codes "/" ++ checkpoint_text vote.content.target)))))))))))))))

-- the word of an offence's kind
unfoldable pub offence_kind_text : OffenceKind → List ℕ
offence_kind_text Double = codes " double "
offence_kind_text Surround = codes " surround "

-- the line of an offence: offence <validator> <double|surround> <vote> <vote>
unfoldable pub offence_line : Offence → List ℕ
offence_line offence =
    codes "offence " ++ (decimal offence.validator
    ++ (offence_kind_text offence.kind
    ++ (vote_text offence.first ++ (codes " " ++ (vote_text offence.second ++ 10 ∷ [])))))
