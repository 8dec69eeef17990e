-- What is told stays well formed.
use Rattle.std.proofs.Common.{◌≡◌, ℕ, zero, suc, ◌+◌, ◌<◌, ◌≤◌, ◌^◌, ◌-◌, ◌⊎◌, inl, inr, true, false, List, [], ◌∷◌, ◌++◌, length, Option, Some, None, IfSome, get_or, slice_get, refl, sym, ap, ◌∙◌, subst, arith, length-append}
use Rattle.std.specs.Option.{option_and_then, option_map_or}
use Rattle.std.proofs.lemmas.Bool.{cases_order}
use Rattle.block_array.specs.declared.facts.Facts.{Facts}
use Rattle.block_array.specs.declared.node.Node.{Node}
use Rattle.block_array.specs.declared.node.Message.{Message}
use Rattle.block_array.specs.PlainArray.{slot_at, parent_at}
use Rattle.beacon_types.specs.declared.checkpoint.Checkpoint.{Checkpoint}
use Rattle.block_array.specs.Calls.{new_array, with_balances, with_checkpoints, with_boost}
use Rattle.block_array.specs.UpdateLatestMessages.{with_message}
use Rattle.block_array.specs.inside.Tree.{IsTree, IsEarlier}
use Rattle.block_array.specs.inside.Held.{IsPlain, IsHeld, Held}

one_tree : (node : Node) → node.parent ≡ None → IsTree (node ∷ [])
unfolding IsTree parent_at
one_tree node first zero parent e = absurd cc
one_tree node first (suc number) parent e = absurd cc

pub new_plain : (slots percent slot : ℕ) (root : List ℕ) (facts : Facts) → 0 < slots → percent ≤ 10000 → IsPlain (new_array slots percent slot root facts)
new_plain slots percent slot root facts s p = record {
  slots = s;
  percent = p;
  total = omega arith;
  few_balances = omega arith;
  tree = one_tree (record { parent = None; slot = slot; root = root; facts = facts }) refl;
  some = omega arith;
  few_nodes = omega arith;
  justified = omega arith;
  boosted = λ node e. absurd cc;
  messages = λ validator message e. absurd cc;
  few_messages = omega arith;
  few_spare = omega arith;
}

-- ---- one node more

get_left : {A : Type 0} (xs ys : List A) (i : ℕ) → i < length xs → slice_get (xs ++ ys) i ≡ slice_get xs i
get_left [] ys i less = absurd (omega arith)
get_left (x ∷ xs) ys zero less = refl
get_left (x ∷ xs) ys (suc i) less = get_left xs ys i (omega arith)

get_last : {A : Type 0} (xs : List A) (y : A) → slice_get (xs ++ y ∷ []) (length xs) ≡ Some y
get_last [] y = refl
get_last (x ∷ xs) y = get_last xs y

get_beyond : {A : Type 0} (xs : List A) (i : ℕ) → length xs ≤ i → slice_get xs i ≡ None
get_beyond [] i past = refl
get_beyond (x ∷ xs) zero past = absurd (omega arith)
get_beyond (x ∷ xs) (suc i) past = get_beyond xs i (omega arith)

module _ (nodes : List Node) (node : Node) where
  pub slot_left : (i : ℕ) → i < length nodes → slot_at (nodes ++ node ∷ []) i ≡ slot_at nodes i
  unfolding slot_at
  slot_left i less = ap (λ o. option_map_or (λ n. n.slot) o 0) (get_left nodes (node ∷ []) i less)

  pub slot_last : slot_at (nodes ++ node ∷ []) (length nodes) ≡ node.slot
  unfolding slot_at
  slot_last = ap (λ o. option_map_or (λ n. n.slot) o 0) (get_last nodes node)

  pub parent_left : (i : ℕ) → i < length nodes → parent_at (nodes ++ node ∷ []) i ≡ parent_at nodes i
  unfolding parent_at
  parent_left i less = ap (option_and_then (λ n. n.parent)) (get_left nodes (node ∷ []) i less)

  pub parent_last : parent_at (nodes ++ node ∷ []) (length nodes) ≡ node.parent
  unfolding parent_at
  parent_last = ap (option_and_then (λ n. n.parent)) (get_last nodes node)

  pub parent_beyond : (i : ℕ) → length nodes < i → parent_at (nodes ++ node ∷ []) i ≡ None
  unfolding parent_at
  parent_beyond i past = ap (option_and_then (λ n. n.parent)) (get_beyond (nodes ++ node ∷ []) i (omega (arith, length-append nodes (node ∷ []))))

  module _ (tree : IsTree nodes) (parent : ℕ) (is : node.parent ≡ Some parent) (inside : parent < length nodes) (later : slot_at nodes parent < node.slot) where
    tree_at : (i p : ℕ) → parent_at (nodes ++ node ∷ []) i ≡ Some p → (i ≡ length nodes) ⊎ ((i < length nodes) ⊎ (length nodes < i)) → IsEarlier (nodes ++ node ∷ []) p i
    unfolding IsTree
    tree_at i p e (inl last) =
        let same : p ≡ parent = (let x : Some p ≡ Some parent = sym e ∙ ap (parent_at (nodes ++ node ∷ [])) last ∙ parent_last ∙ is in cc) in
        let left : slot_at (nodes ++ node ∷ []) p ≡ slot_at nodes parent = ap (slot_at (nodes ++ node ∷ [])) same ∙ slot_left parent inside in
        let right : slot_at (nodes ++ node ∷ []) i ≡ node.slot = ap (slot_at (nodes ++ node ∷ [])) last ∙ slot_last in
        record { number = omega arith; slot = omega arith }
    tree_at i p e (inr (inl before)) =
        let old : IsEarlier nodes p i = tree i p (sym (parent_left i before) ∙ e) in
        let number : p < i = old.number in
        let slot : slot_at nodes p < slot_at nodes i = old.slot in
        let left : slot_at (nodes ++ node ∷ []) p ≡ slot_at nodes p = slot_left p (omega arith) in
        let right : slot_at (nodes ++ node ∷ []) i ≡ slot_at nodes i = slot_left i before in
        record { number = number; slot = omega arith }
    tree_at i p e (inr (inr past)) = absurd (let x : None ≡ Some p = sym (parent_beyond i past) ∙ e in cc)

    pub tree_pushed : IsTree (nodes ++ node ∷ [])
    unfolding IsTree
    tree_pushed = λ i p e. tree_at i p e (cases_order i (length nodes))

-- ---- one message more

pub message_length : (messages : List (Option Message)) (v : ℕ) (message : Message) (n : ℕ) → length messages ≤ n → v < n → length (with_message messages v message) ≤ n
unfolding with_message
message_length [] zero message n l v = omega arith
message_length [] (suc k) message zero l v = absurd (omega arith)
message_length [] (suc k) message (suc n) l v = let h : length (with_message [] k message) ≤ n = message_length [] k message n (omega arith) (omega arith) in omega arith
message_length (m ∷ messages) zero message n l v = l
message_length (m ∷ messages) (suc k) message zero l v = absurd (omega arith)
message_length (m ∷ messages) (suc k) message (suc n) l v = let h : length (with_message messages k message) ≤ n = message_length messages k message n (omega arith) (omega arith) in omega arith

pub message_put : (messages : List (Option Message)) (v : ℕ) (message : Message) (k : ℕ) (x : Message) → get_or (with_message messages v message) k None ≡ Some x → (x ≡ message) ⊎ (get_or messages k None ≡ Some x)
unfolding with_message
message_put [] zero message zero x e = inl cc
message_put [] zero message (suc k) x e = absurd cc
message_put [] (suc v) message zero x e = absurd cc
message_put [] (suc v) message (suc k) x e = message_put [] v message k x e
message_put (m ∷ messages) zero message zero x e = inl cc
message_put (m ∷ messages) zero message (suc k) x e = inr e
message_put (m ∷ messages) (suc v) message zero x e = inr e
message_put (m ∷ messages) (suc v) message (suc k) x e = message_put messages v message k x e

-- ---- each call

module _ (held : Held) (h : IsHeld held) where
  pub kept_spare : (nodes validators : ℕ) → length held.array.nodes + nodes ≤ held.node_room → validators ≤ held.message_room → validators ≤ held.changed_room → validators ≤ held.silenced_room → validators ≤ 2 ^ 40 → IsHeld (record held { array = record held.array { spare_nodes = nodes; spare_validators = validators } })
  kept_spare nodes validators n m c o few = record { plain = record { slots = h.plain.slots; percent = h.plain.percent; total = h.plain.total; few_balances = h.plain.few_balances; tree = h.plain.tree; some = h.plain.some; few_nodes = h.plain.few_nodes; justified = h.plain.justified; boosted = h.plain.boosted; messages = h.plain.messages; few_messages = h.plain.few_messages; few_spare = few }; nodes = n; messages = m; changed = c; silenced = o }

  pub kept_balances : (balances : List ℕ) (count total : ℕ) → length balances ≤ 2 ^ 40 → total ≤ 2 ^ 104 → IsHeld (record held { array = with_balances held.array balances count total })
  kept_balances balances count total few low = record { plain = record { slots = h.plain.slots; percent = h.plain.percent; total = low; few_balances = few; tree = h.plain.tree; some = h.plain.some; few_nodes = h.plain.few_nodes; justified = h.plain.justified; boosted = h.plain.boosted; messages = h.plain.messages; few_messages = h.plain.few_messages; few_spare = h.plain.few_spare }; nodes = h.nodes; messages = h.messages; changed = h.changed; silenced = h.silenced }

  pub kept_checkpoints : (node : ℕ) (justified finalized : Checkpoint) → node < length held.array.nodes → IsHeld (record held { array = with_checkpoints held.array node justified finalized })
  kept_checkpoints node justified finalized inside = record { plain = record { slots = h.plain.slots; percent = h.plain.percent; total = h.plain.total; few_balances = h.plain.few_balances; tree = h.plain.tree; some = h.plain.some; few_nodes = h.plain.few_nodes; justified = inside; boosted = h.plain.boosted; messages = h.plain.messages; few_messages = h.plain.few_messages; few_spare = h.plain.few_spare }; nodes = h.nodes; messages = h.messages; changed = h.changed; silenced = h.silenced }

  boosted_is : (node : Option ℕ) (n : ℕ) → IfSome node (λ number. number < length held.array.nodes) → node ≡ Some n → n < length held.array.nodes
  boosted_is None n i e = absurd cc
  boosted_is (Some x) n i e = let s : x ≡ n = cc in omega arith

  pub kept_boost : (node : Option ℕ) → IfSome node (λ number. number < length held.array.nodes) → IsHeld (record held { array = with_boost held.array node })
  kept_boost node inside = record { plain = record { slots = h.plain.slots; percent = h.plain.percent; total = h.plain.total; few_balances = h.plain.few_balances; tree = h.plain.tree; some = h.plain.some; few_nodes = h.plain.few_nodes; justified = h.plain.justified; boosted = λ n e. boosted_is node n inside e; messages = h.plain.messages; few_messages = h.plain.few_messages; few_spare = h.plain.few_spare }; nodes = h.nodes; messages = h.messages; changed = h.changed; silenced = h.silenced }

  pub kept_made : (changed : List ℕ) (room : ℕ) → held.changed_room ≤ room → IsHeld (record held { array = record held.array { changed_validators = changed; balances_set = false; anything_changed = false }; changed_room = room })
  kept_made changed room more =
      let d = h.changed in
      record { plain = record { slots = h.plain.slots; percent = h.plain.percent; total = h.plain.total; few_balances = h.plain.few_balances; tree = h.plain.tree; some = h.plain.some; few_nodes = h.plain.few_nodes; justified = h.plain.justified; boosted = h.plain.boosted; messages = h.plain.messages; few_messages = h.plain.few_messages; few_spare = h.plain.few_spare }; nodes = h.nodes; messages = h.messages; changed = omega arith; silenced = h.silenced }

  pub kept_changed : (changed : List ℕ) (room : ℕ) → held.changed_room ≤ room → IsHeld (record held { array = record held.array { changed_validators = changed }; changed_room = room })
  kept_changed changed room more =
      let d = h.changed in
      record { plain = record { slots = h.plain.slots; percent = h.plain.percent; total = h.plain.total; few_balances = h.plain.few_balances; tree = h.plain.tree; some = h.plain.some; few_nodes = h.plain.few_nodes; justified = h.plain.justified; boosted = h.plain.boosted; messages = h.plain.messages; few_messages = h.plain.few_messages; few_spare = h.plain.few_spare }; nodes = h.nodes; messages = h.messages; changed = omega arith; silenced = h.silenced }

  pub kept_message : (v : ℕ) (message : Message) (messages : List (Option Message)) (room : ℕ) → held.message_room ≤ room → messages ≡ with_message held.array.latest_messages v message → v < 2 ^ 40 → message.node < length held.array.nodes → IsHeld (record held { array = record held.array { latest_messages = messages; anything_changed = true }; message_room = room })
  kept_message v message messages room more is few inside =
      let b = h.messages in
      record { plain = record { slots = h.plain.slots; percent = h.plain.percent; total = h.plain.total; few_balances = h.plain.few_balances; tree = h.plain.tree; some = h.plain.some; few_nodes = h.plain.few_nodes; justified = h.plain.justified; boosted = h.plain.boosted; messages = λ k x e. put_below k x (sym (ap (λ ms. get_or ms k None) is) ∙ e); few_messages = subst (λ (ms : List (Option Message)). length ms ≤ 2 ^ 40) (sym is) (message_length held.array.latest_messages v message (2 ^ 40) h.plain.few_messages few); few_spare = h.plain.few_spare }; nodes = h.nodes; messages = omega arith; changed = h.changed; silenced = h.silenced }
    where
      below : (k : ℕ) (x : Message) → (x ≡ message) ⊎ (get_or held.array.latest_messages k None ≡ Some x) → x.node < length held.array.nodes
      below k x (inl same) = subst (λ (m : Message). m.node < length held.array.nodes) (sym same) inside
      below k x (inr old) = h.plain.messages k x old

      put_below : (k : ℕ) (x : Message) → get_or (with_message held.array.latest_messages v message) k None ≡ Some x → x.node < length held.array.nodes
      put_below k x e = below k x (message_put held.array.latest_messages v message k x e)

  pub kept_silenced : (silenced : List ℕ) (room : ℕ) → held.silenced_room ≤ room → IsHeld (record held { array = record held.array { silenced_validators = silenced; anything_changed = true }; silenced_room = room })
  kept_silenced silenced room more =
      let d = h.silenced in
      record { plain = record { slots = h.plain.slots; percent = h.plain.percent; total = h.plain.total; few_balances = h.plain.few_balances; tree = h.plain.tree; some = h.plain.some; few_nodes = h.plain.few_nodes; justified = h.plain.justified; boosted = h.plain.boosted; messages = h.plain.messages; few_messages = h.plain.few_messages; few_spare = h.plain.few_spare }; nodes = h.nodes; messages = h.messages; changed = h.changed; silenced = omega arith }

  pub kept_node : (node : Node) (parent room spare : ℕ) (nodes : List Node) → nodes ≡ held.array.nodes ++ node ∷ [] → spare ≡ held.array.spare_nodes - 1 → held.node_room ≤ room → length held.array.nodes < held.node_room → length held.array.nodes < 2 ^ 32 - 1 → node.parent ≡ Some parent → parent < length held.array.nodes → slot_at held.array.nodes parent < node.slot → IsHeld (record held { array = record held.array { nodes = nodes; anything_changed = true; spare_nodes = spare }; node_room = room })
  kept_node node parent room spare nodes is less more inside few first below later =
      let a = h.nodes in
      let l : length (held.array.nodes ++ node ∷ []) ≡ length held.array.nodes + 1 = length-append held.array.nodes (node ∷ []) in
      subst (λ (ns : List Node). IsHeld (record held { array = record held.array { nodes = ns; anything_changed = true; spare_nodes = spare }; node_room = room })) (sym is)
      (record { plain = record { slots = h.plain.slots; percent = h.plain.percent; total = h.plain.total; few_balances = h.plain.few_balances; tree = tree_pushed held.array.nodes node h.plain.tree parent first below later; some = omega arith; few_nodes = omega arith; justified = (let j = h.plain.justified in omega arith); boosted = λ n e. (let j = h.plain.boosted n e in omega arith); messages = λ k x e. (let j = h.plain.messages k x e in omega arith); few_messages = h.plain.few_messages; few_spare = h.plain.few_spare }; nodes = omega arith; messages = h.messages; changed = h.changed; silenced = h.silenced })

pub new_held : (slots percent slot : ℕ) (root : List ℕ) (facts : Facts) (nodes : List Node) (messages : List (Option Message)) (balances silenced changed : List ℕ) (node_room message_room changed_room silenced_room : ℕ) → 0 < slots → percent ≤ 10000
    → nodes ≡ record { parent = None; slot = slot; root = root; facts = facts } ∷ [] → messages ≡ [] → balances ≡ [] → silenced ≡ [] → changed ≡ [] → 1 ≤ node_room
    → IsHeld (record { array = record (new_array slots percent slot root facts) { nodes = nodes; latest_messages = messages; balances = balances; silenced_validators = silenced; changed_validators = changed }; node_room = node_room; message_room = message_room; changed_room = changed_room; silenced_room = silenced_room })
new_held slots percent slot root facts nodes messages balances silenced changed node_room message_room changed_room silenced_room s p n m b o c room =
    let first : Node = record { parent = None; slot = slot; root = root; facts = facts } in
    let held : List Node → List (Option Message) → List ℕ → List ℕ → List ℕ → Held = λ ns ms bs os cs. record { array = record (new_array slots percent slot root facts) { nodes = ns; latest_messages = ms; balances = bs; silenced_validators = os; changed_validators = cs }; node_room = node_room; message_room = message_room; changed_room = changed_room; silenced_room = silenced_room } in
    subst (λ (ns : List Node). IsHeld (held ns messages balances silenced changed)) (sym n)
    (subst (λ (ms : List (Option Message)). IsHeld (held (first ∷ []) ms balances silenced changed)) (sym m)
    (subst (λ (bs : List ℕ). IsHeld (held (first ∷ []) [] bs silenced changed)) (sym b)
    (subst (λ (os : List ℕ). IsHeld (held (first ∷ []) [] [] os changed)) (sym o)
    (subst (λ (cs : List ℕ). IsHeld (held (first ∷ []) [] [] [] cs)) (sym c)
    (record { plain = new_plain slots percent slot root facts s p; nodes = omega arith; messages = omega arith; changed = omega arith; silenced = omega arith })))))

pub ruleset beginning = (new_plain)

pub ruleset pushing = (kept_node)

pub ruleset sparing = (kept_spare)

pub ruleset putting = (kept_message)

pub ruleset noting = (kept_changed)

pub ruleset silencing = (kept_silenced)

pub ruleset setting = (kept_made, kept_boost, kept_checkpoints, kept_balances)
