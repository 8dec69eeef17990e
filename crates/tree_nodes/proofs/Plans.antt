-- Plans that are opened one after another, and spots that are filled.
use Rattle.std.proofs.Common.{◌≡◌, ℕ, zero, suc, ◌+◌, ◌-◌, ◌*◌, List, [], ◌∷◌, ◌++◌, length, refl, sym, ap, ap₂, subst, ◌∙◌, arith, length-append}
use Rattle.std.specs.Prelude.{Option, Some, None, Result, Ok, Err, IfOk, OnOk}
use Rattle.std.proofs.lemmas.List.{append-nil, append_assoc}
use Rattle.tree_nodes.specs.inside.Layers.{paired, ArePaired}
use Rattle.tree_nodes.specs.inside.Nodes.{AreHalves}
use Rattle.tree_nodes.specs.inside.Plans.{trees, pairs, gaps, filled, AreDeep, AreOpen}
use Rattle.tree_nodes.proofs.Climbs.{length_paired}

pub if_ok : {X E : Type 0} {P Q : X → Type 0} (r : Result X E) → ((x : X) → P x → Q x) → IfOk r P → IfOk r Q
if_ok (Ok x) f p = f x p
if_ok (Err e) f p = tt

pub when_ok : {X E P Q : Type 0} (r : Result X E) → (P → Q) → OnOk r P → OnOk r Q
when_ok (Ok x) f p = f p
when_ok (Err e) f p = tt

module _ {A : Type 0} where
  -- the spot of a node, and one without
  pub node_some : (spot : Option (ℕ × List A)) (node : ℕ × List A) (spots : List (Option (ℕ × List A))) (others : List (ℕ × List A)) → spot ≡ Some node → filled (spot ∷ spots) others ≡ node ∷ filled spots others
  unfolding filled
  node_some spot node spots others is = ap (λ (s : Option (ℕ × List A)). filled (s ∷ spots) others) is

  pub node_none : (spot : Option (ℕ × List A)) (node : ℕ × List A) (spots : List (Option (ℕ × List A))) (others next : List (ℕ × List A)) → spot ≡ None → others ≡ node ∷ next → filled (spot ∷ spots) others ≡ node ∷ filled spots next
  unfolding filled
  node_none spot node spots others next is first = ap₂ (λ (s : Option (ℕ × List A)) (ns : List (ℕ × List A)). filled (s ∷ spots) ns) is first

  pub some_gaps : (spot : Option (ℕ × List A)) (node : ℕ × List A) → spot ≡ Some node → gaps (spot ∷ []) ≡ 0
  unfolding gaps
  some_gaps spot node is = ap (λ (s : Option (ℕ × List A)). gaps (s ∷ [])) is

  pub none_gaps : (spot : Option (ℕ × List A)) → spot ≡ None → gaps (spot ∷ []) ≡ 1
  unfolding gaps
  none_gaps spot is = ap (λ (s : Option (ℕ × List A)). gaps (s ∷ [])) is

  pub gaps_first : (spot : Option (ℕ × List A)) (spots : List (Option (ℕ × List A))) → gaps (spot ∷ spots) ≡ gaps (spot ∷ []) + gaps spots
  unfolding gaps
  gaps_first (Some node) spots = omega arith
  gaps_first None spots = omega arith

  -- one more spot
  pub fill_more : (nodes now : List (ℕ × List A)) (node : ℕ × List A) (spot : Option (ℕ × List A)) (rest next : List (Option (ℕ × List A))) (others left all : List (ℕ × List A)) → rest ≡ spot ∷ next → now ≡ nodes ++ node ∷ [] → filled (spot ∷ next) others ≡ node ∷ filled next left → nodes ++ filled rest others ≡ all → now ++ filled next left ≡ all
  fill_more nodes now node spot rest next others left all first push is made =
      ap (λ (ns : List (ℕ × List A)). ns ++ filled next left) push
      ∙ (append_assoc nodes (node ∷ []) (filled next left)
      ∙ (ap (λ (ns : List (ℕ × List A)). nodes ++ ns) (sym is) ∙ (ap (λ (ss : List (Option (ℕ × List A))). nodes ++ filled ss others) (sym first) ∙ made)))

  pub fill_all : (nodes : List (ℕ × List A)) (rest : List (Option (ℕ × List A))) (others all : List (ℕ × List A)) → length rest ≡ 0 → nodes ++ filled rest others ≡ all → nodes ≡ all
  unfolding filled
  fill_all nodes [] others all none made = sym (append-nil nodes) ∙ made
  fill_all nodes (spot ∷ rest) others all none made = absurd (omega arith)

  -- lists of plans
  pub length_trees : (plans : List ((ℕ × List A) × ℕ)) → length (trees plans) ≡ length plans
  unfolding trees
  length_trees [] = refl
  length_trees (p ∷ ps) = omega (arith, length_trees ps)

  trees_append : (ps qs : List ((ℕ × List A) × ℕ)) → trees (ps ++ qs) ≡ trees ps ++ trees qs
  unfolding trees
  trees_append [] qs = refl
  trees_append (p ∷ ps) qs = ap (λ (r : List (ℕ × List A)). p.0 ∷ r) (trees_append ps qs)

  pairs_append : (ps qs : List ((ℕ × List A) × ℕ)) → pairs (ps ++ qs) ≡ pairs ps + pairs qs
  unfolding pairs
  pairs_append [] qs = omega arith
  pairs_append (p ∷ ps) qs = omega (arith, pairs_append ps qs)

  deep_front : (depth : ℕ) (ps : List ((ℕ × List A) × ℕ)) (p : (ℕ × List A) × ℕ) → AreDeep depth (ps ++ p ∷ []) → AreDeep depth ps × (p.0.0 ≡ depth)
  deep_front depth [] p h = (tt, h.0)
  deep_front depth (q ∷ ps) p h = let rest = deep_front depth ps p h.1 in ((h.0, rest.0), rest.1)

  deep_two : (depth : ℕ) (ps : List ((ℕ × List A) × ℕ)) (p q : (ℕ × List A) × ℕ) → AreDeep depth ps → p.0.0 ≡ depth → q.0.0 ≡ depth → AreDeep depth (ps ++ p ∷ (q ∷ []))
  deep_two depth [] p q h first second = (first, (second, tt))
  deep_two depth (o ∷ ps) p q h first second = (h.0, deep_two depth ps p q h.1 first second)

  gaps_append : (ss ts : List (Option (ℕ × List A))) → gaps (ss ++ ts) ≡ gaps ss + gaps ts
  unfolding gaps
  gaps_append [] ts = omega arith
  gaps_append (Some n ∷ ss) ts = gaps_append ss ts
  gaps_append (None ∷ ss) ts = omega (arith, gaps_append ss ts)

  filled_append : (ss ts : List (Option (ℕ × List A))) (ns ms : List (ℕ × List A)) → gaps ss ≡ length ns → filled (ss ++ ts) (ns ++ ms) ≡ filled ss ns ++ filled ts ms
  unfolding filled gaps
  filled_append [] ts [] ms h = refl
  filled_append [] ts (n ∷ ns) ms h = absurd (omega arith)
  filled_append (Some x ∷ ss) ts ns ms h = ap (λ (r : List (ℕ × List A)). x ∷ r) (filled_append ss ts ns ms h)
  filled_append (None ∷ ss) ts [] ms h = absurd (omega arith)
  filled_append (None ∷ ss) ts (n ∷ ns) ms h = ap (λ (r : List (ℕ × List A)). n ∷ r) (filled_append ss ts ns ms (omega arith))

  paired_append : (k : ℕ) (ns : List (ℕ × List A)) (l r : ℕ × List A) → length ns ≡ 2 * k → paired (ns ++ l ∷ (r ∷ [])) ≡ paired ns ++ (suc l.0, l.1 ++ r.1) ∷ []
  unfolding paired
  paired_append zero [] l r long = refl
  paired_append zero (n ∷ ns) l r long = absurd (omega arith)
  paired_append (suc k) [] l r long = absurd (omega arith)
  paired_append (suc k) (n ∷ []) l r long = absurd (omega arith)
  paired_append (suc k) (n ∷ (m ∷ ns)) l r long = ap (λ (x : List (ℕ × List A)). (suc n.0, n.1 ++ m.1) ∷ x) (paired_append k ns l r (omega arith))

  halves_append : (k : ℕ) (ns : List (ℕ × List A)) (l r : ℕ × List A) → length ns ≡ 2 * k → ArePaired ns → AreHalves l r → ArePaired (ns ++ l ∷ (r ∷ []))
  halves_append zero [] l r long h are = (are, tt)
  halves_append zero (n ∷ ns) l r long h are = absurd (omega arith)
  halves_append (suc k) [] l r long h are = absurd (omega arith)
  halves_append (suc k) (n ∷ []) l r long h are = absurd (omega arith)
  halves_append (suc k) (n ∷ (m ∷ ns)) l r long h are = (h.0, halves_append k ns l r (omega arith) h.1 are)

  -- as many pairs as gaps
  pub pairs_fit : (plans halves : List ((ℕ × List A) × ℕ)) (spots : List (Option (ℕ × List A))) → AreOpen plans spots halves → gaps spots ≡ length (paired (trees halves))
  pairs_fit plans halves spots h = sym (length_paired (gaps spots) (trees halves) (length_trees halves ∙ h.two_each))

  pub open_none : AreOpen {T = A} [] [] []
  unfolding trees pairs gaps filled paired
  open_none = record {
    all = refl;
    are_paired = tt;
    two_each = refl;
    fewer = refl;
    lower = λ depth deep. (tt, λ some. absurd (omega arith));
  }

  -- one more plan that is a node
  pub open_made : (plans halves : List ((ℕ × List A) × ℕ)) (spots now : List (Option (ℕ × List A))) (plan : (ℕ × List A) × ℕ) (node : ℕ × List A) → ◌≡◌ {A = (ℕ × List A) × ℕ} (node, 0) plan → now ≡ spots ++ Some node ∷ [] → AreOpen plans spots halves → AreOpen (plans ++ plan ∷ []) now halves
  unfolding trees pairs gaps filled
  open_made plans halves spots now plan node is push h =
      let fit = pairs_fit plans halves spots h in
      let same : gaps now ≡ gaps spots = ap gaps push ∙ (gaps_append spots (Some node ∷ []) ∙ omega arith) in
      let none : plan.1 ≡ 0 = sym (ap (λ (p : (ℕ × List A) × ℕ). p.1) is) in
      let more : pairs (plans ++ plan ∷ []) ≡ pairs plans + pairs (plan ∷ []) = pairs_append plans (plan ∷ []) in
      let one : pairs (plan ∷ []) ≡ plan.1 + 0 = refl in
      let fewer = h.fewer in
      let two = h.two_each in
      record {
        all =
            ap₂ (λ (ss : List (Option (ℕ × List A))) (ns : List (ℕ × List A)). filled ss ns) push (sym (append-nil (paired (trees halves))))
            ∙ (filled_append spots (Some node ∷ []) (paired (trees halves)) [] fit
            ∙ (ap₂ (λ (ns : List (ℕ × List A)) (p : (ℕ × List A) × ℕ). ns ++ p.0 ∷ []) h.all is ∙ sym (trees_append plans (plan ∷ []))));
        are_paired = h.are_paired;
        two_each = omega arith;
        fewer = omega arith;
        lower = λ depth deep. h.lower depth (deep_front depth plans plan deep).0;
      }

  -- one more that is a pair
  pub open_pair : (plans halves middle after : List ((ℕ × List A) × ℕ)) (spots now : List (Option (ℕ × List A))) (plan left right : (ℕ × List A) × ℕ) → AreHalves left.0 right.0 → ◌≡◌ {A = (ℕ × List A) × ℕ} ((suc left.0.0, left.0.1 ++ right.0.1), suc (left.1 + right.1)) plan → middle ≡ halves ++ left ∷ [] → after ≡ middle ++ right ∷ [] → now ≡ spots ++ None ∷ [] → AreOpen plans spots halves → AreOpen (plans ++ plan ∷ []) now after
  unfolding trees pairs gaps filled
  open_pair plans halves middle after spots now plan left right are is first second push h =
      let fit = pairs_fit plans halves spots h in
      let both : after ≡ halves ++ left ∷ (right ∷ []) = second ∙ (ap (λ (ps : List ((ℕ × List A) × ℕ)). ps ++ right ∷ []) first ∙ append_assoc halves (left ∷ []) (right ∷ [])) in
      let made : trees after ≡ trees halves ++ left.0 ∷ (right.0 ∷ []) = ap trees both ∙ trees_append halves (left ∷ (right ∷ [])) in
      let even : length (trees halves) ≡ 2 * gaps spots = length_trees halves ∙ h.two_each in
      let node : ◌≡◌ {A = ℕ × List A} (suc left.0.0, left.0.1 ++ right.0.1) plan.0 = ap (λ (p : (ℕ × List A) × ℕ). p.0) is in
      let next : gaps now ≡ gaps spots + 1 = ap gaps push ∙ gaps_append spots (None ∷ []) in
      let count : suc (left.1 + right.1) ≡ plan.1 = ap (λ (p : (ℕ × List A) × ℕ). p.1) is in
      let more : pairs (plans ++ plan ∷ []) ≡ pairs plans + pairs (plan ∷ []) = pairs_append plans (plan ∷ []) in
      let one : pairs (plan ∷ []) ≡ plan.1 + 0 = refl in
      let longer : length (halves ++ left ∷ (right ∷ [])) ≡ length halves + 2 = length-append halves (left ∷ (right ∷ [])) in
      let long : length after ≡ length (halves ++ left ∷ (right ∷ [])) = ap length both in
      let sum : pairs after ≡ pairs halves + pairs (left ∷ (right ∷ [])) = ap pairs both ∙ pairs_append halves (left ∷ (right ∷ [])) in
      let two_pairs : pairs (left ∷ (right ∷ [])) ≡ left.1 + (right.1 + 0) = refl in
      let fewer = h.fewer in
      let two = h.two_each in
      record {
        all =
            ap₂ (λ (ss : List (Option (ℕ × List A))) (ns : List (ℕ × List A)). filled ss (paired ns)) push made
            ∙ (ap (λ (ns : List (ℕ × List A)). filled (spots ++ None ∷ []) ns) (paired_append (gaps spots) (trees halves) left.0 right.0 even)
            ∙ (filled_append spots (None ∷ []) (paired (trees halves)) ((suc left.0.0, left.0.1 ++ right.0.1) ∷ []) fit
            ∙ (ap₂ (λ (ns : List (ℕ × List A)) (n : ℕ × List A). ns ++ n ∷ []) h.all node ∙ sym (trees_append plans (plan ∷ [])))));
        are_paired = subst (λ (ns : List (ℕ × List A)). ArePaired ns) (sym made) (halves_append (gaps spots) (trees halves) left.0 right.0 even h.are_paired are);
        two_each = omega arith;
        fewer = omega arith;
        lower = λ depth deep.
            let split = deep_front depth plans plan deep in
            let so_far = h.lower depth split.0 in
            let deeper : suc left.0.0 ≡ depth = ap (λ (n : ℕ × List A). n.0) node ∙ split.1 in
            let same = are.same_depth in (
              subst (λ (ps : List ((ℕ × List A) × ℕ)). AreDeep (depth - 1) ps) (sym both) (deep_two (depth - 1) halves left right so_far.0 (omega arith) (omega arith)),
              λ some. omega arith,
            );
      }

  -- plans that are nodes, all of them
  pub all_made : (plans halves : List ((ℕ × List A) × ℕ)) (spots : List (Option (ℕ × List A))) → AreOpen plans spots halves → length halves ≡ 0 → filled spots [] ≡ trees plans
  unfolding trees paired
  all_made plans [] spots h none = h.all
  all_made plans (p ∷ ps) spots h none = absurd (omega arith)

  -- a list of one plan
  pub one_plan : (plans start : List ((ℕ × List A) × ℕ)) (plan : (ℕ × List A) × ℕ) → start ≡ [] → plans ≡ start ++ plan ∷ [] → plans ≡ plan ∷ []
  one_plan plans start plan none push = push ∙ ap (λ (ps : List ((ℕ × List A) × ℕ)). ps ++ plan ∷ []) none

  pub one_pairs : (plans : List ((ℕ × List A) × ℕ)) (plan : (ℕ × List A) × ℕ) → plans ≡ plan ∷ [] → pairs plans ≡ plan.1
  unfolding pairs
  one_pairs plans plan is = ap pairs is ∙ omega arith

  pub one_tree : (nodes front : List (ℕ × List A)) (node : ℕ × List A) (plans : List ((ℕ × List A) × ℕ)) (plan : (ℕ × List A) × ℕ) → plans ≡ plan ∷ [] → nodes ≡ trees plans → nodes ≡ front ++ node ∷ [] → node ≡ plan.0
  unfolding trees
  one_tree nodes [] node plans plan is made last =
      let both : node ∷ [] ≡ plan.0 ∷ [] = sym last ∙ (made ∙ ap trees is) in
      ap (λ (ns : List (ℕ × List A)). elim ns as (λ _. ℕ × List A) [ [] ↦ node | n ∷ rest ↦ n ]) both
  one_tree nodes (n ∷ front) node plans plan is made last =
      let long : length (n ∷ (front ++ node ∷ [])) ≡ length (plan.0 ∷ []) = ap length (sym last ∙ (made ∙ ap trees is)) in
      let more = length-append front (node ∷ []) in
      absurd (omega arith)
