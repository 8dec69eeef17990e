-- The array stays whole.
use Rattle.std.proofs.Common.{◌≡◌, ℕ, zero, suc, ◌+◌, ◌<◌, ◌≤◌, ◌⊎◌, inl, inr, Bool, true, false, cond, List, [], ◌∷◌, ◌++◌, length, get_or, Option, Some, None, refl, sym, ap, ◌∙◌, subst, arith, length-append}
use Rattle.std.specs.Option.{option_map_or}
use Rattle.std.proofs.lemmas.Bool.{cases_lt}
use Rattle.std.proofs.lemmas.List.{get_or_past}
use Rattle.std.proofs.lemmas.List.Sums.{sum_by-cons}
use Rattle.beacon_types.specs.declared.checkpoint.Checkpoint.{Checkpoint}
use Rattle.block_array.specs.declared.facts.Facts.{Facts}
use Rattle.block_array.specs.declared.node.Node.{Node}
use Rattle.block_array.specs.declared.node.Message.{Message}
use Rattle.block_array.specs.declared.best_descendant.BestDescendant.{BestDescendant}
use Rattle.block_array.specs.declared.tally.Counted.{Counted}
use Rattle.block_array.specs.PlainArray.{PlainArray, message_of, vote_of, balance_of, is_listed}
use Rattle.block_array.specs.UpdateLatestMessages.{voted}
use Rattle.block_array.specs.Silence.{silenced}
use Rattle.block_array.specs.Calls.{new_array, with_node, with_balances, with_checkpoints, with_boost, made}
use Rattle.block_array.specs.GetHead.{goes_before, best_of, children_of, next_head, head_within, get_head}
use Rattle.block_array.specs.FilterBlockTree.{agrees, is_viable, with_viable, filter_block_tree, get_filtered_block_tree}
use Rattle.block_array.specs.GetLatestAttestingBalance.{votes_for, validators_of, attestation_score, proposer_score, is_boosted, get_latest_attesting_balance}
use Rattle.block_array.specs.inside.Counts.{Counts, nothing, counted_of}
use Rattle.block_array.specs.inside.Held.{due, boost_due}
use Rattle.block_array.specs.inside.BestDescendants.{best_descendant_at, IsCounted, IsMade, IsHeadFrom}
use Rattle.block_array.proofs.Noting.{due_none}
use Rattle.block_array.specs.inside.Noted.{count_changed, IsNoted, IsUnchanged, IsArray}

-- ---- weights and head don't depend on what changed, nor on what is spare

module _ (array : PlainArray) (changed : List ℕ) (set any : Bool) (nodes validators : ℕ) where
  abbrev other : PlainArray
  other = record array { changed_validators = changed; balances_set = set; anything_changed = any; spare_nodes = nodes; spare_validators = validators }

  weight_same : (j : ℕ) → get_latest_attesting_balance other j ≡ get_latest_attesting_balance array j
  unfolding get_latest_attesting_balance is_boosted attestation_score votes_for validators_of balance_of vote_of message_of proposer_score
  weight_same j = refl

  before_same : (a b : ℕ) → goes_before other a b ≡ goes_before array a b
  unfolding goes_before get_latest_attesting_balance is_boosted attestation_score votes_for validators_of balance_of vote_of message_of proposer_score
  before_same a b = refl

  best_same : (x : ℕ) (xs : List ℕ) → best_of other x xs ≡ best_of array x xs
  unfolding best_of
  best_same x [] = refl
  best_same x (y ∷ xs) = ap (λ b. cond b (best_of other y xs) (best_of other x xs)) (before_same y x) ∙ by (best_same y xs) (best_same x xs) (goes_before array y x)
    where
      by : best_of other y xs ≡ best_of array y xs → best_of other x xs ≡ best_of array x xs → (b : Bool) → cond b (best_of other y xs) (best_of other x xs) ≡ cond b (best_of array y xs) (best_of array x xs)
      by second first true = second
      by second first false = first

  next_same : (j : ℕ) (xs : List ℕ) → next_head other j xs ≡ next_head array j xs
  unfolding next_head
  next_same j [] = refl
  next_same j (x ∷ xs) = best_same x xs

  children_same : (tree : List ℕ) (j : ℕ) → children_of other tree j ≡ children_of array tree j
  unfolding children_of
  children_same tree j = refl

  head_same : (steps : ℕ) (tree : List ℕ) (j : ℕ) → head_within steps other tree j ≡ head_within steps array tree j
  unfolding head_within
  head_same zero tree j = refl
  head_same (suc steps) tree j =
      ap (head_within steps other tree) (ap (next_head other j) (children_same tree j) ∙ next_same j (children_of array tree j))
      ∙ head_same steps tree (next_head array j (children_of array tree j))

  with_same : (number : ℕ) (node : Node) (later : List Node) (viable : List ℕ) → with_viable other number node later viable ≡ with_viable array number node later viable
  unfolding with_viable is_viable agrees
  with_same number node later viable = refl

  tree_same : (number : ℕ) (later : List Node) → filter_block_tree other number later ≡ filter_block_tree array number later
  unfolding filter_block_tree
  tree_same number [] = refl
  tree_same number (node ∷ later) = ap (with_viable other number node later) (tree_same (suc number) later) ∙ with_same number node later (filter_block_tree array (suc number) later)

  filtered_same : get_filtered_block_tree other ≡ get_filtered_block_tree array
  unfolding get_filtered_block_tree
  filtered_same = tree_same 0 array.nodes

  pub made_same : (bests : List BestDescendant) → IsMade array bests → IsMade other bests
  unfolding IsHeadFrom
  made_same bests m = record {
    weights = λ j f h. m.weights j f h ∙ sym (weight_same j);
    heads = λ j f h steps enough. head_same steps (get_filtered_block_tree other) j ∙ ap (λ tree. head_within steps array tree j) filtered_same ∙ m.heads j f h steps enough;
  }

  pub due_same : (counts : Counts) → IsCounted array counts → IsCounted other counts
  unfolding due boost_due balance_of vote_of message_of proposer_score
  due_same counts c = record { nodes = c.nodes; covers = c.covers; validators = c.validators; boost = c.boost }

-- ---- each call

module _ (array : PlainArray) (counts : Counts) (bests : List BestDescendant) (best_room changed_room changed_room₁ : ℕ) (a : IsArray array counts bests best_room changed_room) (more_changed : changed_room ≤ changed_room₁) (told : PlainArray) where
  more : length counts.validators ≤ changed_room₁
  more = let m = a.marks in omega arith

  pub kept_boost : (boosted : Option ℕ) → told ≡ with_boost array boosted → IsArray told counts bests best_room changed_room₁
  unfolding message_of balance_of vote_of due
  kept_boost boosted is = subst (λ (t : PlainArray). IsArray t counts bests best_room changed_room₁) (sym is) (record {
    noted = record { nodes = a.noted.nodes; covers = a.noted.covers; listed = a.noted.listed; many = a.noted.many; idle = a.noted.idle; current = a.noted.current };
    length_is = a.length_is;
    unchanged = λ e. absurd cc;
    tally_nodes = a.tally_nodes;
    best_nodes = a.best_nodes;
    tally_validators = a.tally_validators;
    marks = more;
  })

  pub kept_checkpoints : (node : ℕ) (justified finalized : Checkpoint) → told ≡ with_checkpoints array node justified finalized → IsArray told counts bests best_room changed_room₁
  unfolding message_of balance_of vote_of due
  kept_checkpoints node justified finalized is = subst (λ (t : PlainArray). IsArray t counts bests best_room changed_room₁) (sym is) (record {
    noted = record { nodes = a.noted.nodes; covers = a.noted.covers; listed = a.noted.listed; many = a.noted.many; idle = a.noted.idle; current = a.noted.current };
    length_is = a.length_is;
    unchanged = λ e. absurd cc;
    tally_nodes = a.tally_nodes;
    best_nodes = a.best_nodes;
    tally_validators = a.tally_validators;
    marks = more;
  })

  pub kept_balances : (balances : List ℕ) (count total : ℕ) → told ≡ with_balances array balances count total → IsArray told counts bests best_room changed_room₁
  unfolding message_of
  kept_balances balances count total is = subst (λ (t : PlainArray). IsArray t counts bests best_room changed_room₁) (sym is) (record {
    noted = record { nodes = a.noted.nodes; covers = a.noted.covers; listed = a.noted.listed; many = a.noted.many; idle = a.noted.idle; current = λ e. absurd cc };
    length_is = a.length_is;
    unchanged = λ e. absurd cc;
    tally_nodes = a.tally_nodes;
    best_nodes = a.best_nodes;
    tally_validators = a.tally_validators;
    marks = more;
  })

  noted_kept : (after : Counts) (next : PlainArray) → next.nodes ≡ array.nodes → next.spare_nodes ≡ array.spare_nodes → next.spare_validators ≡ array.spare_validators → next.anything_changed ≡ true → IsNoted next after → after.node_room ≡ counts.node_room → counts.validator_room ≤ after.validator_room → length after.validators ≤ changed_room₁ → IsArray next after bests best_room changed_room₁
  noted_kept after next nodes spare_nodes spare_validators changed noted room wider marks =
      let t = a.tally_nodes in let v = a.tally_validators in let b = a.best_nodes in
      let n : length next.nodes ≡ length array.nodes = ap length nodes in
      record {
        noted = noted;
        length_is = a.length_is ∙ sym n;
        unchanged = λ e. absurd (let x : true ≡ false = sym changed ∙ e in cc);
        tally_nodes = omega arith;
        best_nodes = omega arith;
        tally_validators = omega arith;
        marks = marks;
      }

  pub kept_vote : (v : ℕ) (message : Message) (after : Counts) → told ≡ voted array v message → IsNoted told after → after.node_room ≡ counts.node_room → counts.validator_room ≤ after.validator_room → length after.validators ≤ changed_room₁ → IsArray told after bests best_room changed_room₁
  unfolding voted
  kept_vote v message after is noted room wider marks =
      subst (λ (t : PlainArray). IsNoted t after → IsArray t after bests best_room changed_room₁) (sym is) (λ n. noted_kept after (voted array v message) refl refl refl refl n room wider marks) noted

  pub kept_silence : (v : ℕ) (after : Counts) → told ≡ silenced array v → IsNoted told after → after.node_room ≡ counts.node_room → counts.validator_room ≤ after.validator_room → length after.validators ≤ changed_room₁ → IsArray told after bests best_room changed_room₁
  unfolding silenced
  kept_silence v after is noted room wider marks =
      subst (λ (t : PlainArray). IsNoted t after → IsArray t after bests best_room changed_room₁) (sym is) (λ n. noted_kept after (silenced array v) refl refl refl refl n room wider marks) noted

counted_rooms : (array : PlainArray) (counts after : Counts) → IsCounted array counts → after.validators ≡ counts.validators → after.nodes ≡ counts.nodes → after.boost ≡ counts.boost → IsCounted array after
counted_rooms array counts after c vs ns boost = record {
  nodes = ns ∙ c.nodes;
  covers = (let l : length after.validators ≡ length counts.validators = ap length vs in let o = c.covers in omega arith);
  validators = subst (λ (ws : List Counted). (v : ℕ) → v < length ws → get_or ws v nothing ≡ due array v) (sym vs) c.validators;
  boost = boost ∙ c.boost;
}

-- rooms alone change
pub kept_rooms : (array : PlainArray) (counts after : Counts) (bests bests₁ : List BestDescendant) (best_room best_room₁ changed_room changed_room₁ : ℕ) → IsArray array counts bests best_room changed_room → bests₁ ≡ bests → after.validators ≡ counts.validators → after.nodes ≡ counts.nodes → after.boost ≡ counts.boost → counts.node_room ≤ after.node_room → counts.validator_room ≤ after.validator_room → best_room ≤ best_room₁ → changed_room ≤ changed_room₁ → IsArray array after bests₁ best_room₁ changed_room₁
kept_rooms array counts after bests bests₁ best_room best_room₁ changed_room changed_room₁ a same vs ns boost nodes validators room changed =
    let t = a.tally_nodes in let v = a.tally_validators in let r = a.best_nodes in let m = a.marks in let l : length after.validators ≡ length counts.validators = ap length vs in
    subst (λ (rs : List BestDescendant). IsArray array after rs best_room₁ changed_room₁) (sym same)
    (record {
      noted = record {
        nodes = ns ∙ a.noted.nodes;
        covers = (let o = a.noted.covers in omega arith);
        listed = λ k. ap (λ ws. (counted_of ws k).changed) vs ∙ a.noted.listed k;
        many = ap count_changed vs ∙ a.noted.many;
        idle = λ k e f. ap (λ ws. counted_of ws k) vs ∙ a.noted.idle k e (sym (ap (λ ws. (counted_of ws k).changed) vs) ∙ f);
        current = λ e k f. ap (λ ws. counted_of ws k) vs ∙ a.noted.current e k (sym (ap (λ ws. (counted_of ws k).changed) vs) ∙ f);
      };
      length_is = a.length_is;
      unchanged = λ e. (let u = a.unchanged e in record { counted = counted_rooms array counts after u.counted vs ns boost; made = u.made; changed = u.changed; balances = u.balances });
      tally_nodes = omega arith;
      best_nodes = omega arith;
      tally_validators = omega arith;
      marks = omega arith;
    })

-- what is spare alone changes, where there is room for it
pub kept_spare : (array : PlainArray) (counts : Counts) (bests : List BestDescendant) (best_room changed_room nodes validators : ℕ) → IsArray array counts bests best_room changed_room → length array.nodes + nodes ≤ counts.node_room → length array.nodes + nodes ≤ best_room → validators ≤ counts.validator_room → IsArray (record array { spare_nodes = nodes; spare_validators = validators }) counts bests best_room changed_room
unfolding message_of balance_of vote_of due
kept_spare array counts bests best_room changed_room nodes validators a t r v = record {
  noted = record { nodes = a.noted.nodes; covers = a.noted.covers; listed = a.noted.listed; many = a.noted.many; idle = a.noted.idle; current = a.noted.current };
  length_is = a.length_is;
  unchanged = λ e. same (a.unchanged e);
  tally_nodes = t;
  best_nodes = r;
  tally_validators = v;
  marks = a.marks;
}
  where
    same : IsUnchanged array counts bests → IsUnchanged (record array { spare_nodes = nodes; spare_validators = validators }) counts bests
    same u = record { counted = due_same array array.changed_validators array.balances_set array.anything_changed nodes validators counts u.counted; made = made_same array array.changed_validators array.balances_set array.anything_changed nodes validators bests u.made; changed = u.changed; balances = u.balances }

-- ---- a node more

pub kept_node : (array : PlainArray) (counts after : Counts) (bests bests₁ : List BestDescendant) (best_room best_room₁ changed_room changed_room₁ : ℕ) (told : PlainArray) (parent slot : ℕ) (root : List ℕ) (facts : Facts) (best : BestDescendant) → IsArray array counts bests best_room changed_room
    → told ≡ with_node array parent slot root facts → after ≡ record counts { nodes = counts.nodes + 1; node_room = after.node_room } → bests₁ ≡ bests ++ best ∷ []
    → counts.node_room ≤ after.node_room → length array.nodes + 1 ≤ after.node_room → best_room ≤ best_room₁ → length array.nodes + 1 ≤ best_room₁ → changed_room ≤ changed_room₁ → IsArray told after bests₁ best_room₁ changed_room₁
unfolding message_of balance_of vote_of due
kept_node array counts after bests bests₁ best_room best_room₁ changed_room changed_room₁ told parent slot root facts best a is tally more nodes node room best_in changed =
    let vs : length after.validators ≡ length counts.validators = ap (λ (c : Counts). length c.validators) tally in let m = a.marks in
    let vr : after.validator_room ≡ counts.validator_room = ap (λ (c : Counts). c.validator_room) tally in
    let t = a.tally_nodes in let v = a.tally_validators in let r = a.best_nodes in
    let node₁ : Node = record { parent = Some parent; slot = slot; root = root; facts = facts } in
    let l : length (array.nodes ++ node₁ ∷ []) ≡ length array.nodes + 1 = length-append array.nodes (node₁ ∷ []) in
    let k : length (bests ++ best ∷ []) ≡ length bests + 1 = length-append bests (best ∷ []) in
    let c : counts.nodes ≡ length array.nodes = a.noted.nodes in
    let d : length bests ≡ length array.nodes = a.length_is in
    subst (λ (t : PlainArray). IsArray t after bests₁ best_room₁ changed_room₁) (sym is)
    (record {
      noted = subst (λ (c : Counts). IsNoted (with_node array parent slot root facts) c) (sym tally) (record { nodes = omega arith; covers = a.noted.covers; listed = a.noted.listed; many = a.noted.many; idle = a.noted.idle; current = a.noted.current });
      length_is = ap length more ∙ (let e : length (bests ++ best ∷ []) ≡ length (array.nodes ++ node₁ ∷ []) = omega arith in e);
      unchanged = λ e. absurd cc;
      tally_nodes = omega arith;
      best_nodes = omega arith;
      tally_validators = omega arith;
      marks = omega arith;
    })

-- ---- a new array

pub new_whole : (slots percent slot : ℕ) (root : List ℕ) (facts : Facts) (array : PlainArray) (counts : Counts) (bests : List BestDescendant) (best_room changed_room : ℕ) → array ≡ new_array slots percent slot root facts → counts.validators ≡ [] → counts.nodes ≡ 1 → 1 ≤ counts.node_room → length bests ≡ 1 → 1 ≤ best_room → IsArray array counts bests best_room changed_room
unfolding is_listed count_changed counted_of message_of
new_whole slots percent slot root facts array counts bests best_room changed_room is validators nodes room len best_in =
    let l : length counts.validators ≡ 0 = ap length validators in
    subst (λ (a : PlainArray). IsArray a counts bests best_room changed_room) (sym is)
    (record {
      noted = record {
        nodes = nodes;
        covers = omega arith;
        listed = λ v. ap (λ vs. (counted_of vs v).changed) validators;
        many = ap count_changed validators;
        idle = λ v e f. ap (λ vs. counted_of vs v) validators;
        current = λ e v f. ap (λ vs. counted_of vs v) validators ∙ sym (due_none (new_array slots percent slot root facts) v (none v));
      };
      length_is = len;
      unchanged = λ e. absurd cc;
      tally_nodes = omega arith;
      best_nodes = omega arith;
      tally_validators = omega arith;
      marks = omega arith;
    })
  where
    none : (v : ℕ) → message_of (new_array slots percent slot root facts) v ≡ None
    none v = get_or_past [] v None (omega arith)

-- ---- after the pass

due_unmarked : (array : PlainArray) (v : ℕ) → (due array v).changed ≡ false
unfolding due
due_unmarked array v = by (vote_of array v)
  where
    by : (o : Option Message) → (option_map_or (λ message. record { node = message.node; balance = balance_of array v; changed = false }) o nothing).changed ≡ false
    by None = refl
    by (Some message) = refl

none_marked : (validators : List Counted) → ((v : ℕ) → (counted_of validators v).changed ≡ false) → count_changed validators ≡ 0
unfolding count_changed counted_of
none_marked [] unmarked = refl
none_marked (c ∷ validators) unmarked =
    let s : count_changed (c ∷ validators) ≡ cond c.changed 1 0 + count_changed validators = sum_by-cons (λ (c : Counted). cond c.changed 1 0) c validators in
    let z : cond c.changed 1 0 ≡ (let z : ℕ = 0 in z) = ap (λ b. cond b 1 0) (unmarked 0) in
    let r : count_changed validators ≡ 0 = none_marked validators (λ v. unmarked (suc v)) in
    omega arith

module _ (array : PlainArray) (counts after : Counts) (counted : IsCounted array after) where
  beyond : (v : ℕ) → length after.validators ≤ v → message_of array v ≡ None
  unfolding message_of
  beyond v past = get_or_past array.latest_messages v None (let l : length array.latest_messages ≤ length after.validators = counted.covers in omega arith)

  all_due : (v : ℕ) → (v < length after.validators) ⊎ (length after.validators ≤ v) → counted_of after.validators v ≡ due array v
  unfolding counted_of
  all_due v (inl inside) = counted.validators v inside
  all_due v (inr past) = get_or_past after.validators v nothing past ∙ sym (due_none array v (beyond v past))

  unmarked : (v : ℕ) → (counted_of after.validators v).changed ≡ false
  unmarked v = ap (λ (c : Counted). c.changed) (all_due v (cases_lt v (length after.validators))) ∙ due_unmarked array v

  pub made_noted : IsNoted (made array) after
  unfolding message_of balance_of vote_of due is_listed
  made_noted = record {
    nodes = counted.nodes;
    covers = counted.covers;
    listed = λ v. unmarked v;
    many = none_marked after.validators unmarked;
    idle = λ v none f. all_due v (cases_lt v (length after.validators)) ∙ due_none array v none;
    current = λ e v f. all_due v (cases_lt v (length after.validators));
  }

pub kept_made : (array : PlainArray) (counts after : Counts) (bests bests₁ : List BestDescendant) (best_room best_room₁ changed_room changed_room₁ : ℕ) (told : PlainArray) → IsArray array counts bests best_room changed_room → told ≡ made array → IsCounted array after → after ≡ record counts { validators = after.validators; boost = after.boost } → length after.validators ≡ length counts.validators → length bests₁ ≡ length array.nodes → IsMade array bests₁ → best_room ≤ best_room₁ → changed_room ≤ changed_room₁ → IsArray told after bests₁ best_room₁ changed_room₁
kept_made array counts after bests bests₁ best_room best_room₁ changed_room changed_room₁ told a is counted same vs len m room changed =
    let marks = a.marks in
    let t = a.tally_nodes in let v = a.tally_validators in let r = a.best_nodes in
    let nr : after.node_room ≡ counts.node_room = ap (λ (c : Counts). c.node_room) same in
    let vr : after.validator_room ≡ counts.validator_room = ap (λ (c : Counts). c.validator_room) same in
    subst (λ (t : PlainArray). IsArray t after bests₁ best_room₁ changed_room₁) (sym is)
    (record {
      noted = made_noted array counts after counted;
      length_is = len;
      unchanged = λ e. record { counted = due_same array [] false false array.spare_nodes array.spare_validators after counted; made = made_same array [] false false array.spare_nodes array.spare_validators bests₁ m; changed = refl; balances = refl };
      tally_nodes = omega arith;
      best_nodes = omega arith;
      tally_validators = omega arith;
      marks = omega arith;
    })

module _ (array : PlainArray) (bests : List BestDescendant) (m : IsMade array bests) where
  pub head_made : array.justified_node < length array.nodes → (best_descendant_at bests array.justified_node).descendant ≡ get_head array
  unfolding get_head IsHeadFrom
  head_made inside = sym (m.heads array.justified_node (omega arith) inside (length array.nodes) (omega arith))
