-- Three words, one behind the other.
use Rattle.std.proofs.Common.{◌≡◌, ◌∙◌, ℕ, List, ◌++◌, ap, append_assoc}
use Rattle.spec_replay.specs.Nodes.{ends_text}
use Rattle.beacon_node.proofs.node_lines.push_ends.Goals as goal

three_behind : (line a b c one two three : List ℕ) → a ≡ line ++ one → b ≡ a ++ two → c ≡ b ++ three → c ≡ line ++ (one ++ (two ++ three))
three_behind line a b c one two three x y z =
    z ∙ (ap (λ (xs : List ℕ). xs ++ three) (y ∙ ap (λ (xs : List ℕ). xs ++ two) x) ∙ (append_assoc (line ++ one) two three ∙ append_assoc line one (two ++ three)))

pub returns-clause-line : goal.returns-clause-line
unfolding ends_text
returns-clause-line c =
    three_behind _ _ _ _ _ _ _ c.in_ok-push_head_word.ensures.line (rw (c.justified.ensures, c.push_head_word.ensures.same) at c.in_ok-push_checkpoint_word.ensures)
    (rw (c.finalized.ensures, c.push_head_word.ensures.same) at c.in_ok-push_checkpoint_word-2.ensures)
