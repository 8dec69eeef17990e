-- Two nodes whose blocks a book takes, and what is said of all pairs.
use Rattle.std.proofs.Common.{◌≡◌, ◌∙◌, ℕ, zero, suc, ◌+◌, ◌-◌, ◌<◌, ◌≤◌, List, [], ◌∷◌, ◌++◌, length, get_or, take, drop, map, reverse, Option, Some, None, Result, Ok, Err, refl, ap, ap₂, sym, subst, append_assoc, append-nil, length-drop, arith}
use Rattle.std.specs.Prelude.{Contains, flat_map}
use Rattle.std.specs.Option.{option_map, option_or}
use Rattle.std.proofs.lemmas.List.{map-append, reverse-append, drop_more, drop_all, take_all, take-append-drop, take_more, flat_map_more}
use Rattle.std.proofs.lemmas.List.Concat.{flat_map-append}
use Rattle.std.proofs.lemmas.Simd.{map-map}
use Rattle.std.proofs.lemmas.List.Elements.{All-get_or, Contains-get_or}
use Rattle.bc_preset.specs.declared.configuration.ConfigValues.{ConfigValues}
use Rattle.bc_words.specs.declared.store_stop.ClashKind.TheVariants.{Kept}
use Rattle.beacon_types.specs.declared.block.BeaconBlock.{BeaconBlock}
use Rattle.spec_state.specs.declared.plain.PlainState.{PlainState}
use Rattle.spec_fork_choice.specs.Store.{KeptBlock, block_of}
use Rattle.spec_forensics.specs.Histories.{AcceptedBlock, IsHistory, IsStepOn}
use Rattle.spec_forensics.specs.Clash.{clash_among, first_accepted, kept_block}
use Rattle.safety_law.proofs.Contents.{covered}
use Rattle.safety_law.proofs.Lists.{image_of, in_reverse}
use Rattle.forensics.specs.Books.{PlainBook, begun, clash_in, history_of, with_block}
use Rattle.spec_replay.specs.Run.{End, clash}
use Rattle.spec_replay.specs.Nodes.{Node, all_or_end, and_others, first_clash, pair_line, pair_of, pair_text, pairs_of, unless_pair_clashes}
use Rattle.beacon_node.specs.declared.histories.Findings.{Findings}
use Rattle.beacon_node.specs.declared.node.Node as code
use Rattle.beacon_node.specs.declared.node.NodeBlock.{NodeBlock}
use Rattle.beacon_node.specs.declared.node.Delivered.{Delivered}
use Rattle.one_chain.specs.declared.status.Status.{Status}
use Rattle.one_chain.specs.declared.status.Status.TheVariants as statuses
use Rattle.beacon_node.specs.inside.Histories.{HasFound}
use Rattle.beacon_node.specs.inside.Nodes.{AreClear, IsNode, LinesSoFar, NodeEnds, added_of, behind_ones, history_in, plain_node}
use Rattle.beacon_node.proofs.Delivering.{history_more}
use Rattle.beacon_node.proofs.Following.{clear_of_both, genesis_clear}

-- ---- a history and its beginnings

history_begins : (config : ConfigValues) (genesis : PlainState) (more history : List AcceptedBlock) → IsHistory config genesis (more ++ history) → IsHistory config genesis history
history_begins config genesis [] history is = is
history_begins config genesis (b ∷ more) history is = history_begins config genesis more history is.1

clear_begins : (genesis : PlainState) (more history : List AcceptedBlock) → AreClear genesis (more ++ history) → AreClear genesis history
clear_begins genesis [] history is = is
clear_begins genesis (b ∷ more) history is = clear_begins genesis more history is.1

first_of_two : {A : Type 0} (a b : Option A) → option_or a b ≡ None → (a ≡ None) × (b ≡ None)
first_of_two (Some x) b is = absurd cc
first_of_two None b is = (refl, is)

-- what is found of one block
abbrev here_found : List KeptBlock → AcceptedBlock → Option (ℕ × ℕ)
here_found others b = option_map (λ (place : ℕ). (b.event, place)) (clash_among others b.root b.block)

one_found : (others : List KeptBlock) (b : AcceptedBlock) (earlier : List AcceptedBlock) → first_clash others (b ∷ earlier) ≡ option_or (first_clash others earlier) (here_found others b)
unfolding first_clash
one_found others b earlier = refl

none_begins : (others : List KeptBlock) (more history : List AcceptedBlock) → first_clash others (more ++ history) ≡ None → first_clash others history ≡ None
none_begins others [] history is = is
none_begins others (b ∷ more) history is = none_begins others more history (first_of_two _ _ (sym (one_found others b (more ++ history)) ∙ is)).0

still_found : (others : List KeptBlock) (more history : List AcceptedBlock) (at : ℕ × ℕ) → first_clash others history ≡ Some at → first_clash others (more ++ history) ≡ Some at
still_found others [] history at is = is
still_found others (b ∷ more) history at is = one_found others b (more ++ history) ∙ ap (λ (o : Option (ℕ × ℕ)). option_or o (here_found others b)) (still_found others more history at is)

none_here : (found : Option ℕ) (event : ℕ) → option_map {U = ℕ × ℕ} (λ (place : ℕ). (event, place)) found ≡ None → found ≡ None
none_here (Some place) event is = absurd cc
none_here None event is = refl

pub nothing_found : (others : List KeptBlock) → first_clash others [] ≡ None
unfolding first_clash
nothing_found others = refl

-- ---- an entry of a node

-- the history of the entries up to one, and of those behind it
history_at : (blocks : List NodeBlock) (i : ℕ) (entry : NodeBlock) → i < length blocks → entry ≡ get_or blocks i entry → history_in blocks ≡ history_in (drop (i + 1) blocks) ++ (added_of entry ∷ history_in (take i blocks))
history_at blocks i entry low is =
    let front : List AcceptedBlock = map added_of (take i blocks) in
    let back : List AcceptedBlock = map added_of (drop (i + 1) blocks) in
    let cut : blocks ≡ take i blocks ++ (entry ∷ drop (i + 1) blocks) = sym (take-append-drop i blocks) ∙ ap (λ (xs : List NodeBlock). take i blocks ++ xs) (drop_more blocks i entry low ∙ ap (λ (e : NodeBlock). e ∷ drop (i + 1) blocks) (sym is)) in
    ap history_in cut
    ∙ (ap (λ (xs : List AcceptedBlock). reverse xs) (map-append added_of (take i blocks) (entry ∷ drop (i + 1) blocks))
    ∙ (reverse-append front (added_of entry ∷ back)
    ∙ (ap (λ (xs : List AcceptedBlock). xs ++ reverse front) (reverse-append (added_of entry ∷ []) back)
    ∙ append_assoc (reverse back) (added_of entry ∷ []) (reverse front))))

-- with one entry more
pub history_next : (blocks : List NodeBlock) (i : ℕ) (entry : NodeBlock) → i < length blocks → entry ≡ get_or blocks i entry → history_in (take (i + 1) blocks) ≡ added_of entry ∷ history_in (take i blocks)
history_next blocks i entry low is = ap history_in (take_more blocks i entry low ∙ ap (λ (e : NodeBlock). take i blocks ++ e ∷ []) (sym is)) ∙ history_more (take i blocks) entry

module _ (config : ConfigValues) (genesis : PlainState) (node : code.Node) (is : IsNode config genesis node) (i : ℕ) (entry : NodeBlock) (low : i < length node.blocks.items) (here : entry ≡ get_or node.blocks.items i entry) where
  abbrev before : List AcceptedBlock
  before = history_in (take i node.blocks.items)

  abbrev behind : List AcceptedBlock
  behind = history_in (drop (i + 1) node.blocks.items)

  cut : history_in node.blocks.items ≡ behind ++ (added_of entry ∷ before)
  cut = history_at node.blocks.items i entry low here

  listed : Contains node.blocks.items entry
  listed = subst (Contains node.blocks.items) (sym here) (Contains-get_or node.blocks.items i entry low)

  -- the store keeps a block of its root, with its content
  pub entry_kept : (kept : KeptBlock) × (block_of node.store.plain.blocks entry.root ≡ Some kept) × (kept.block ≡ entry.block.value)
  entry_kept =
      let history : List AcceptedBlock = history_in node.blocks.items in
      let in_history : Contains history (added_of entry) = in_reverse (map added_of node.blocks.items) (added_of entry) (image_of added_of node.blocks.items entry listed) in
      let c = covered genesis history (added_of entry) is.follows.others in_history in
      (kept_block c.it, ap (λ (blocks : List KeptBlock). block_of blocks entry.root) is.follows.blocks ∙ c.found, is.follows.content c.it (added_of entry) c.listed in_history c.root_is)

  pub block_is : (b : BeaconBlock) → Some b ≡ option_map (λ (k : KeptBlock). k.block) (block_of node.store.plain.blocks entry.root) → b ≡ entry.block.value
  block_is b found =
      let k = entry_kept in
      let same : Some b ≡ Some k.0.block = found ∙ ap (option_map (λ (k : KeptBlock). k.block)) k.1 in
      let is_kept : b ≡ k.0.block = cc in
      is_kept ∙ k.2

  pub never_missing : {A : Type 0} → None ≡ option_map (λ (k : KeptBlock). k.block) (block_of node.store.plain.blocks entry.root) → A
  never_missing missing =
      let k = entry_kept in
      let no : None ≡ Some k.0.block = missing ∙ ap (option_map (λ (k : KeptBlock). k.block)) k.1 in
      absurd cc

  pub entry_step : IsStepOn config genesis before (added_of entry)
  entry_step = (history_begins config genesis behind (added_of entry ∷ before) (rw cut at is.follows.is_history)).0

  pub entry_clear : clash_among (first_accepted genesis before) entry.root entry.block.value ≡ None
  entry_clear = (clear_begins genesis behind (added_of entry ∷ before) (rw cut at is.kept.clear)).0

  pub entry_watches : entry.watch.genesis ≡ genesis
  entry_watches = rw here (All-get_or (λ (b : NodeBlock). b.watch.genesis ≡ genesis) node.blocks.items i entry low is.kept.watches)

  -- ---- what is found of it

  module _ (others : List KeptBlock) where
    pub entry_apart : first_clash others (history_in node.blocks.items) ≡ None → clash_among others entry.root entry.block.value ≡ None
    entry_apart none =
        let so_far : first_clash others (added_of entry ∷ before) ≡ None = none_begins others behind (added_of entry ∷ before) (ap (first_clash others) (sym cut) ∙ none) in
        none_here (clash_among others entry.root entry.block.value) entry.event (first_of_two _ _ (sym (one_found others (added_of entry) before) ∙ so_far)).1

    pub none_so_far : first_clash others before ≡ None → None ≡ clash_among others entry.root entry.block.value → first_clash others (history_in (take (i + 1) node.blocks.items)) ≡ None
    none_so_far none clear =
        ap (first_clash others) (history_next node.blocks.items i entry low here)
        ∙ (one_found others (added_of entry) before ∙ ap₂ (λ (a b : Option (ℕ × ℕ)). option_or a b) none (ap (option_map {U = ℕ × ℕ} (λ (place : ℕ). (entry.event, place))) (sym clear)))

    pub found_here : (place : ℕ) → first_clash others before ≡ None → Some place ≡ clash_among others entry.root entry.block.value → Some (entry.event, place) ≡ first_clash others (history_in node.blocks.items)
    found_here place none clashes =
        let at : first_clash others (added_of entry ∷ before) ≡ Some (entry.event, place) =
        one_found others (added_of entry) before ∙ ap₂ (λ (a b : Option (ℕ × ℕ)). option_or a b) none (ap (option_map {U = ℕ × ℕ} (λ (place : ℕ). (entry.event, place))) (sym clashes)) in
        sym (ap (first_clash others) cut ∙ still_found others behind (added_of entry ∷ before) (entry.event, place) at)

-- ---- the book

-- the block can be added, which clashes with no block before it and with none of the history before
pub clear_to_add : (which : ℕ) (book : PlainBook) (root : List ℕ) (b : BeaconBlock) → which < 2 → (which ≡ 0 → book.second ≡ []) → clash_among (first_accepted book.genesis (history_of book which)) root b ≡ None
    → (which ≡ 1 → clash_among (first_accepted book.genesis book.first) root b ≡ None) → clash_in book root b ≡ None
unfolding history_of
clear_to_add zero book root b less order own apart = clear_of_both book.genesis book.first book.second root b own (rw (order refl) (genesis_clear book.genesis book.first root b own))
clear_to_add (suc zero) book root b less order own apart = clear_of_both book.genesis book.first book.second root b (apart refl) own
clear_to_add (suc (suc n)) book root b less order own apart = absurd (omega (arith, less))

-- What a block more leaves of a book.
pub record OneIn (which : ℕ) (old new : PlainBook) (b : AcceptedBlock) : Type 0 where
  pub history : history_of new which ≡ b ∷ history_of old which
  pub other : history_of new (1 - which) ≡ history_of old (1 - which)
  pub config : new.config ≡ old.config
  pub genesis : new.genesis ≡ old.genesis

pub one_in : (which : ℕ) (old new : PlainBook) (b : AcceptedBlock) → which < 2 → new ≡ with_block old which b → OneIn which old new b
unfolding history_of with_block
one_in zero old new b less is = record {
  history = ap (λ (book : PlainBook). book.first) is;
  other = ap (λ (book : PlainBook). book.second) is;
  config = ap (λ (book : PlainBook). book.config) is;
  genesis = ap (λ (book : PlainBook). book.genesis) is;
}
one_in (suc zero) old new b less is = record {
  history = ap (λ (book : PlainBook). book.second) is;
  other = ap (λ (book : PlainBook). book.first) is;
  config = ap (λ (book : PlainBook). book.config) is;
  genesis = ap (λ (book : PlainBook). book.genesis) is;
}
one_in (suc (suc n)) old new b less is = absurd (omega (arith, less))

-- the book with one entry more
pub one_more_in : (which : ℕ) (old new : PlainBook) (blocks : List NodeBlock) (i : ℕ) (entry : NodeBlock) (b : BeaconBlock) → which < 2 → i < length blocks → entry ≡ get_or blocks i entry → b ≡ entry.block.value → history_of old which ≡ history_in (take i blocks)
    → new ≡ with_block old which (record { event = entry.event; root = entry.root; block = b; state = entry.state; entered = entry.watch.entered }) → history_of new which ≡ history_in (take (i + 1) blocks)
one_more_in which old new blocks i entry b less low here same added is =
    (one_in which old new (record { event = entry.event; root = entry.root; block = b; state = entry.state; entered = entry.watch.entered }) less is).history
    ∙ (ap₂ (λ (b : BeaconBlock) (history : List AcceptedBlock). record { event = entry.event; root = entry.root; block = b; state = entry.state; entered = entry.watch.entered } ∷ history) same added
    ∙ sym (history_next blocks i entry low here))

pub all_in : (blocks : List NodeBlock) (i : ℕ) → length blocks ≤ i → history_in (take i blocks) ≡ history_in blocks
all_in blocks i past = ap (λ (xs : List NodeBlock). history_in xs) (take_all i blocks past)

-- the parts of a book by their numbers
pub second_of : (which : ℕ) (old new : PlainBook) → which ≡ 0 → history_of new (1 - which) ≡ history_of old (1 - which) → new.second ≡ old.second
unfolding history_of
second_of which old new zero_is same = rw zero_is at same

pub first_of : (which : ℕ) (old new : PlainBook) → which ≡ 1 → history_of new (1 - which) ≡ history_of old (1 - which) → new.first ≡ old.first
unfolding history_of
first_of which old new one_is same = rw one_is at same

pub nothing_begun : (config : ConfigValues) (genesis : PlainState) (book : PlainBook) → book ≡ begun config genesis → (book.config ≡ config) × (book.genesis ≡ genesis) × (history_of book 0 ≡ []) × (history_of book 1 ≡ []) × (book.second ≡ [])
unfolding begun history_of
nothing_begun config genesis book is = (ap (λ (b : PlainBook). b.config) is, ap (λ (b : PlainBook). b.genesis) is, ap (λ (b : PlainBook). b.first) is, ap (λ (b : PlainBook). b.second) is, ap (λ (b : PlainBook). b.second) is)

-- in words of its own parts
pub begins_so : (config : ConfigValues) (genesis : PlainState) (book : PlainBook) → book ≡ begun config genesis → book ≡ begun book.config book.genesis
begins_so config genesis book is =
    let b = nothing_begun config genesis book is in
    is ∙ ap₂ (λ (c : ConfigValues) (g : PlainState). begun c g) (sym b.0) (sym b.1)

pub as_parts : (book : PlainBook) → (history_of book 0 ≡ book.first) × (history_of book 1 ≡ book.second)
unfolding history_of
as_parts book = (refl, refl)

-- ---- a pair

module _ (genesis : PlainState) (first second : Node) where
  abbrev found : Option (ℕ × ℕ)
  found = first_clash (first_accepted genesis first.followed.history) second.followed.history

  -- a block clashes
  pub pair_clashes : (event place : ℕ) → Some (event, place) ≡ found → NodeEnds (statuses.Clash second.number event (Kept place) first.number) (pair_of genesis (first, second))
  unfolding pair_of unless_pair_clashes
  pair_clashes event place is = λ on. (clash second.number event (Kept place) first.number, refl, rw (← is) refl)

  -- none does
  pub pair_told : (findings : Findings) (line : List ℕ) → found ≡ None → HasFound genesis first.followed.history second.followed.history first.followed.store second.followed.store findings
      → line ≡ pair_text first.number second.number (length findings.offences.items) findings.verdict → pair_of genesis (first, second) ≡ Ok line
  unfolding pair_of unless_pair_clashes pair_line
  pair_told findings line none has is = rw (none, is, has.offences, has.verdict) refl

-- ---- one after the other

none_before : {A : Type 0} (left : Result (List A) End) → left ≡ behind_ones [] left
none_before (Ok more) = refl
none_before (Err end) = refl

one_before : {A : Type 0} (ones : List A) (one : A) (left : Result (List A) End) → behind_ones ones (and_others (Ok one) left) ≡ behind_ones (ones ++ one ∷ []) left
unfolding and_others
one_before ones one (Ok more) = ap (λ xs. Ok xs) (sym (append_assoc ones (one ∷ []) more))
one_before ones one (Err end) = refl

pub some_before : {A : Type 0} (ones more : List A) (left : Result (List A) End) → behind_ones ones (behind_ones more left) ≡ behind_ones (ones ++ more) left
some_before ones more (Ok rest) = ap (λ xs. Ok xs) (sym (append_assoc ones more rest))
some_before ones more (Err end) = refl

first_then : {A : Type 0} (one : Result A End) (others : List (Result A End)) → all_or_end (one ∷ others) ≡ and_others one (all_or_end others)
unfolding all_or_end
first_then one others = refl

pub first_ends : {A : Type 0} (ones : List A) (one : Result A End) (others : List (Result A End)) (end : End) → one ≡ Err end → behind_ones ones (all_or_end (one ∷ others)) ≡ Err end
unfolding all_or_end and_others
first_ends ones one others end is = rw is refl

pub first_made : {A : Type 0} (ones : List A) (one : Result A End) (made : A) (others : List (Result A End)) → one ≡ Ok made → behind_ones ones (all_or_end (one ∷ others)) ≡ behind_ones (ones ++ made ∷ []) (all_or_end others)
first_made ones one made others is = ap (behind_ones ones) (first_then one others ∙ ap (λ (r : Result _ End). and_others r (all_or_end others)) is) ∙ one_before ones made (all_or_end others)

pub none_of_all : {A : Type 0} → all_or_end {A = A} [] ≡ Ok []
unfolding all_or_end
none_of_all = refl

behind_first : {A : Type 0} (x : A) (more : List A) (left : Result (List A) End) → and_others (Ok x) (behind_ones more left) ≡ behind_ones (x ∷ more) left
unfolding and_others
behind_first x more (Ok rest) = refl
behind_first x more (Err end) = refl

made_behind : {A : Type 0} (x : A) (all joined rest : Result (List A) End) (made : List A) → and_others (Ok x) all ≡ Ok made → ((more : List A) → all ≡ Ok more → joined ≡ behind_ones more rest) → and_others (Ok x) joined ≡ behind_ones made rest
unfolding and_others
made_behind x (Err end) joined rest made is so = absurd cc
made_behind x (Ok more) joined rest made is so =
    let same : x ∷ more ≡ made = cc in
    rw (← same) (ap (and_others (Ok x)) (so more refl) ∙ behind_first x more rest)

ends_so : {A : Type 0} (x : A) (all joined : Result (List A) End) (end : End) → and_others (Ok x) all ≡ Err end → ((other : End) → all ≡ Err other → joined ≡ Err other) → and_others (Ok x) joined ≡ Err end
unfolding and_others
ends_so x (Ok more) joined end is so = absurd cc
ends_so x (Err other) joined end is so = let same : other ≡ end = cc in ap (and_others (Ok x)) (so other refl) ∙ ap Err same

-- a list of them in two parts
pub both_made : {A : Type 0} (xs ys : List (Result A End)) (made : List A) → all_or_end xs ≡ Ok made → all_or_end (xs ++ ys) ≡ behind_ones made (all_or_end ys)
unfolding all_or_end and_others
both_made [] ys made is = let none : [] ≡ made = cc in rw (← none) (none_before (all_or_end ys))
both_made (Err end ∷ xs) ys made is = absurd cc
both_made (Ok x ∷ xs) ys made is = made_behind x (all_or_end xs) (all_or_end (xs ++ ys)) (all_or_end ys) made is (λ more of. both_made xs ys more of)

pub first_part_ends : {A : Type 0} (xs ys : List (Result A End)) (end : End) → all_or_end xs ≡ Err end → all_or_end (xs ++ ys) ≡ Err end
unfolding all_or_end and_others
first_part_ends [] ys end is = absurd cc
first_part_ends (Err other ∷ xs) ys end is = is
first_part_ends (Ok x ∷ xs) ys end is = ends_so x (all_or_end xs) (all_or_end (xs ++ ys)) end is (λ other of. first_part_ends xs ys other of)

-- ---- lines

pub line_more : (lines new line : List ℕ) (one : Result (List ℕ) End) (others : List (Result (List ℕ) End)) (left all : Result (List (List ℕ)) End) → left ≡ all_or_end (one ∷ others) → LinesSoFar lines left all → one ≡ Ok line → new ≡ lines ++ line
    → LinesSoFar new (all_or_end others) all
line_more lines new line one others left all is h made_is new_is = record {
  made = h.made ++ line ∷ [];
  are = new_is ∙ ap (λ (xs : List ℕ). xs ++ line) h.are ∙ flat_map_more (λ (line : List ℕ). line) [] h.made line;
  all_is = h.all_is ∙ ap (behind_ones h.made) is ∙ first_made h.made one line others made_is;
}

pub line_ends : (status : Status) (lines : List ℕ) (one : Result (List ℕ) End) (others : List (Result (List ℕ) End)) (left all : Result (List (List ℕ)) End) → left ≡ all_or_end (one ∷ others) → LinesSoFar lines left all → NodeEnds status one → NodeEnds status all
line_ends status lines one others left all is h ends = λ on.
    let e = ends on in
    (e.0, e.1, h.all_is ∙ ap (behind_ones h.made) is ∙ first_ends h.made one others e.0 e.2)

pub lines_over : (lines : List ℕ) (left all : Result (List (List ℕ)) End) → left ≡ Ok [] → LinesSoFar lines left all → (more : List (List ℕ)) × (all ≡ Ok more) × (lines ≡ flat_map (λ (line : List ℕ). line) more)
lines_over lines left all is h = (h.made, h.all_is ∙ ap (behind_ones h.made) is ∙ ap (λ (xs : List (List ℕ)). Ok xs) (append-nil h.made), h.are)

-- lines of a part
pub lines_more : (lines new part : List ℕ) (xs ys : List (Result (List ℕ) End)) (left all : Result (List (List ℕ)) End) → left ≡ all_or_end (xs ++ ys) → LinesSoFar lines left all → (told : (more : List (List ℕ)) × (all_or_end xs ≡ Ok more) × (part ≡ flat_map (λ (line : List ℕ). line) more))
    → new ≡ lines ++ part → LinesSoFar new (all_or_end ys) all
lines_more lines new part xs ys left all is h told new_is = record {
  made = h.made ++ told.0;
  are = new_is ∙ ap₂ (λ (xs ys : List ℕ). xs ++ ys) h.are told.2 ∙ sym (flat_map-append (λ (line : List ℕ). line) h.made told.0);
  all_is = h.all_is ∙ ap (behind_ones h.made) (is ∙ both_made xs ys told.0 told.1) ∙ some_before h.made told.0 (all_or_end ys);
}

pub part_ends : (status : Status) (lines : List ℕ) (xs ys : List (Result (List ℕ) End)) (left all : Result (List (List ℕ)) End) → left ≡ all_or_end (xs ++ ys) → LinesSoFar lines left all → NodeEnds status (all_or_end xs) → NodeEnds status all
part_ends status lines xs ys left all is h ends = λ on.
    let e = ends on in
    (e.0, e.1, h.all_is ∙ ap (behind_ones h.made) (is ∙ first_part_ends xs ys e.0 e.2))

-- the pairs of nodes, of which this is the first
pub pairs_next : (genesis : PlainState) (x : Node) (later : List Node) → map (pair_of genesis) (pairs_of (x ∷ later)) ≡ map (λ (other : Node). pair_of genesis (x, other)) later ++ map (pair_of genesis) (pairs_of later)
unfolding pairs_of
pairs_next genesis x later = map-append (pair_of genesis) (map (λ (other : Node). (x, other)) later) (pairs_of later) ∙ ap (λ xs. xs ++ map (pair_of genesis) (pairs_of later)) (map-map (pair_of genesis) (λ (other : Node). (x, other)) later)

pub no_pairs : (genesis : PlainState) → map (pair_of genesis) (pairs_of []) ≡ []
unfolding pairs_of
no_pairs genesis = refl

-- ---- what is left behind some items of a list

pub next_left : {A : Type 0} (f : A → Result (List ℕ) End) (xs : List A) (i : ℕ) (x : A) → i < length xs → x ≡ get_or xs i x → all_or_end (map f (drop i xs)) ≡ all_or_end (f x ∷ map f (drop (i + 1) xs))
next_left f xs i x low is = ap (λ (ys : List _). all_or_end (map f ys)) (drop_more xs i x low ∙ ap (λ y. y ∷ drop (i + 1) xs) (sym is))

pub none_left : {A : Type 0} (f : A → Result (List ℕ) End) (xs : List A) (i : ℕ) → length xs ≤ i → all_or_end (map f (drop i xs)) ≡ Ok []
none_left f xs i past = ap (λ (ys : List _). all_or_end (map f ys)) (drop_all i xs past) ∙ none_of_all

abbrev pub plain_of : Delivered → Node
plain_of given = plain_node [] given.node

-- a slice up to the end of a list
up_to_end : {A : Type 0} (xs : List A) (i : ℕ) → drop i xs ≡ take (length xs - i) (drop i xs)
up_to_end xs i = sym (take_all (length xs - i) (drop i xs) (omega (arith, length-drop i xs)))

pub pairs_left : (genesis : PlainState) (nodes : List Delivered) (i : ℕ) (x : Delivered) → i < length nodes → x ≡ get_or nodes i x
    → all_or_end (map (pair_of genesis) (pairs_of (map plain_of (drop i nodes)))) ≡ all_or_end (map (λ (given : Delivered). pair_of genesis (plain_of x, plain_of given)) (take (length nodes - (i + 1)) (drop (i + 1) nodes)) ++ map (pair_of genesis) (pairs_of (map plain_of (drop (i + 1) nodes))))
pairs_left genesis nodes i x low is =
    let others : List (Result (List ℕ) End) = map (pair_of genesis) (pairs_of (map plain_of (drop (i + 1) nodes))) in
    ap (λ (ys : List Delivered). all_or_end (map (pair_of genesis) (pairs_of (map plain_of ys)))) (drop_more nodes i x low ∙ ap (λ (y : Delivered). y ∷ drop (i + 1) nodes) (sym is))
    ∙ (ap all_or_end (pairs_next genesis (plain_of x) (map plain_of (drop (i + 1) nodes)))
    ∙ (ap (λ xs. all_or_end (xs ++ others)) (map-map (λ (other : Node). pair_of genesis (plain_of x, other)) plain_of (drop (i + 1) nodes))
    ∙ ap (λ (ys : List Delivered). all_or_end (map (λ (given : Delivered). pair_of genesis (plain_of x, plain_of given)) ys ++ others)) (up_to_end nodes (i + 1))))

pub no_pairs_left : (genesis : PlainState) (nodes : List Delivered) (i : ℕ) → length nodes ≤ i → all_or_end (map (pair_of genesis) (pairs_of (map plain_of (drop i nodes)))) ≡ Ok []
no_pairs_left genesis nodes i past =
    ap (λ (ys : List Delivered). all_or_end (map (pair_of genesis) (pairs_of (map plain_of ys)))) (drop_all i nodes past) ∙ (ap all_or_end (no_pairs genesis) ∙ none_of_all)
