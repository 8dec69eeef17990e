-- Counting the votes for some data, one after another: what a loop over those that are left has still to do.
use Rattle.std.proofs.Common.{◌≡◌, ◌+◌, ◌≤◌, true, false, cond, List, [], ◌∷◌, length, refl, ap, ◌∙◌, add_comm, zero-add}
use Rattle.std.proofs.lemmas.List.Sums.{sum_by-cons, count_by-le-length}
use Rattle.beacon_types.specs.declared.eth1_data.Eth1Data.{Eth1Data}
use Rattle.spec_blocks.specs.ProcessEth1Data.{same_eth1_data, count_votes}

opens : (vote : Eth1Data) (left : List Eth1Data) (voted : Eth1Data) → count_votes (vote ∷ left) voted ≡ cond (same_eth1_data vote voted) 1 0 + count_votes left voted
unfolding count_votes
opens vote left voted = sum_by-cons (λ v. cond (same_eth1_data v voted) 1 0) vote left

pub one_for : (vote : Eth1Data) (left : List Eth1Data) (voted : Eth1Data) → same_eth1_data vote voted ≡ true → count_votes (vote ∷ left) voted ≡ count_votes left voted + 1
one_for vote left voted is = opens vote left voted ∙ ap (λ b. cond b 1 0 + count_votes left voted) is ∙ add_comm 1 (count_votes left voted)

pub one_against : (vote : Eth1Data) (left : List Eth1Data) (voted : Eth1Data) → same_eth1_data vote voted ≡ false → count_votes (vote ∷ left) voted ≡ count_votes left voted
one_against vote left voted is = opens vote left voted ∙ ap (λ b. cond b 1 0 + count_votes left voted) is ∙ zero-add (count_votes left voted)

pub none_left : (voted : Eth1Data) → count_votes [] voted ≡ 0
unfolding count_votes
none_left voted = refl

pub votes_few : (votes : List Eth1Data) (voted : Eth1Data) → count_votes votes voted ≤ length votes
unfolding count_votes
votes_few votes voted = count_by-le-length (λ v. same_eth1_data v voted) votes

-- what the loop over the votes needs
pub ruleset counting = (one_for, one_against, none_left, votes_few)
