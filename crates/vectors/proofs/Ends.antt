-- A block on the end of a chain is a step of its history, and the new end.
use Rattle.std.proofs.Common.{◌≡◌, ◌∙◌, ℕ, zero, suc, ◌+◌, ◌<◌, ◌^◌, ◌⊎◌, inl, inr, false, true, cond, List, [], ◌∷◌, map, length, Result, Ok, Err, refl, sym, ap, subst, arith}
use Rattle.std.specs.List.{Contains}
use Rattle.std.specs.Prelude.{IfOk}
use Rattle.std.specs.Cmp.{unsigned_Decides}
use Rattle.std.specs.Cmp.Lexicographic.{pointwise_decides}
use Rattle.bc_words.specs.Outcome.{Outcome, done, refused, limited, Stops, GivesBy}
use Rattle.bc_words.specs.declared.stop.Stop.{Stop}
use Rattle.bc_preset.specs.declared.configuration.ConfigValues.{ConfigValues}
use Rattle.beacon_types.specs.Equality.{same_root}
use Rattle.beacon_types.specs.Blocks.{block_codec}
use Rattle.beacon_types.specs.declared.signed_block.SignedBeaconBlock.{SignedBeaconBlock}
use Rattle.spec_state.specs.declared.plain.PlainState.{PlainState}
use Rattle.spec_state.specs.Genesis.{zero_root, header_root_of}
use Rattle.spec_state.specs.Soundness.{IsSound}
use Rattle.spec_state.specs.States.{state_codec}
use Rattle.spec_transition.specs.ProcessSlots.{Stepped}
use Rattle.spec_transition.specs.StateTransition.{state_transition}
use Rattle.spec_forensics.specs.Histories.{AcceptedBlock, IsStepOn, chain_to, state_behind}
use Rattle.epoch_visitor.specs.Shown.{shown_all}
use Rattle.transition.specs.Shown.{showing}
use Rattle.transition.proofs.Visits.{stops_shown}
use Rattle.forensics.specs.Books.{PlainBook, begun, history_of, with_block}
use Rattle.forensics.specs.Watches.{PlainWatch, with_entered}
use Rattle.forensics.proofs.Watches.{watched}
use Rattle.vectors.specs.Chains.{PlainChain, IsChain, Reaches}

-- the accepted block of a step
abbrev pub accepted : ℕ → List ℕ → SignedBeaconBlock → Stepped → AcceptedBlock
accepted event root signed step = record { event = event; root = root; block = signed.message; state = step.state; entered = step.entered }

first_of : (x : List ℕ) (xs : List (List ℕ)) → Contains (x ∷ xs) x
first_of x xs = (0, omega arith, refl)

same_end : (root : List ℕ) → same_root root root ≡ true
same_end root = (pointwise_decides unsigned_Decides root root).1 refl

pub is_step : (chain : PlainChain) (event : ℕ) (root : List ℕ) (signed : SignedBeaconBlock) (step : Stepped) → IsChain chain → signed.message.parent_root ≡ chain.root → root ≡ block_codec.hash_tree_root signed.message → signed.message.slot < 2 ^ 64
    → same_root root zero_root ≡ false → same_root ((state_codec step.state.preset).hash_tree_root step.state) zero_root ≡ false → state_transition chain.state signed chain.book.config ≡ done step
    → IsStepOn chain.book.config chain.book.genesis (history_of chain.book chain.which) (accepted event root signed step)
is_step chain event root signed step is parent root_is slot root_set state_set goes = record {
  signed = signed;
  message = refl;
  root = root_is;
  parent = subst (λ (r : List ℕ). (r ≡ header_root_of chain.book.genesis) ⊎ Contains (map (λ (e : AcceptedBlock). e.root) (history_of chain.book chain.which)) r) (sym parent) is.known;
  step =
      ap (λ (r : List ℕ). state_transition (state_behind chain.book.genesis (chain_to (history_of chain.book chain.which) r)) signed chain.book.config) parent
      ∙ ap (λ (s : PlainState). state_transition s signed chain.book.config) is.behind
      ∙ goes;
  slot = slot;
  root_is_set = root_set;
  state_root_is_set = state_set;
}

-- ---- the new end

latest : (book : PlainBook) (which : ℕ) (b : AcceptedBlock) → which < 2 → history_of (with_block book which b) which ≡ b ∷ history_of book which
unfolding history_of with_block
latest book zero b low = refl
latest book (suc zero) b low = refl
latest book (suc (suc n)) b low = absurd (omega arith)

one_genesis : (book : PlainBook) (which : ℕ) (b : AcceptedBlock) → which < 2 → (with_block book which b).genesis ≡ book.genesis
unfolding with_block
one_genesis book zero b low = refl
one_genesis book (suc zero) b low = refl
one_genesis book (suc (suc n)) b low = absurd (omega arith)

pub one_config : (book : PlainBook) (which : ℕ) (b : AcceptedBlock) → which < 2 → (with_block book which b).config ≡ book.config
unfolding with_block
one_config book zero b low = refl
one_config book (suc zero) b low = refl
one_config book (suc (suc n)) b low = absurd (omega arith)

in_order : (book : PlainBook) (which : ℕ) (b : AcceptedBlock) → which < 2 → (which ≡ 0 → book.second ≡ []) → which ≡ 0 → (with_block book which b).second ≡ []
unfolding with_block
in_order book zero b low order e = order refl
in_order book (suc n) b low order e = absurd (omega arith)

pub one_more : (book : PlainBook) (which : ℕ) (b : AcceptedBlock) → which < 2 → length (with_block book which b).first + length (with_block book which b).second ≡ (length book.first + length book.second) + 1
unfolding with_block
one_more book zero b low = omega arith
one_more book (suc zero) b low = omega arith
one_more book (suc (suc n)) b low = absurd (omega arith)

ends_there : (genesis : PlainState) (b : AcceptedBlock) (earlier : List AcceptedBlock) → state_behind genesis (chain_to (b ∷ earlier) b.root) ≡ b.state
unfolding chain_to
ends_there genesis b earlier = ap (λ t. state_behind genesis (cond t (b ∷ chain_to earlier b.block.parent_root) (chain_to earlier b.root))) (same_end b.root)

pub next_end : (chain : PlainChain) (b : AcceptedBlock) → IsChain chain → IsSound b.state → IsChain (record { book = with_block chain.book chain.which b; which = chain.which; root = b.root; state = b.state })
next_end chain b is sound =
    let book : PlainBook = with_block chain.book chain.which b in
    let more : history_of book chain.which ≡ b ∷ history_of chain.book chain.which = latest chain.book chain.which b is.which in
    record {
      which = is.which;
      order = in_order chain.book chain.which b is.which is.order;
      sound = sound;
      genesis_sound = subst IsSound (sym (one_genesis chain.book chain.which b is.which)) is.genesis_sound;
      behind = ap (λ (h : List AcceptedBlock). state_behind book.genesis (chain_to h b.root)) more ∙ ends_there book.genesis b (history_of chain.book chain.which);
      known = inr (subst (λ (h : List AcceptedBlock). Contains (map (λ (e : AcceptedBlock). e.root) h) b.root) (sym more) (first_of b.root (map (λ (e : AcceptedBlock). e.root) (history_of chain.book chain.which))));
    }

-- ---- at the beginning

pub no_block : (config : ConfigValues) (genesis : PlainState) → IsSound genesis → IsChain (record { book = begun config genesis; which = 0; root = header_root_of genesis; state = genesis })
unfolding history_of chain_to begun
no_block config genesis sound = record { which = omega arith; order = λ e. refl; sound = sound; genesis_sound = sound; behind = refl; known = inl refl }

pub turned : (book : PlainBook) → book.second ≡ [] → IsSound book.genesis → IsChain (record { book = book; which = 1; root = header_root_of book.genesis; state = book.genesis })
unfolding history_of chain_to
turned book none sound = record {
  which = omega arith;
  order = λ e. absurd (omega arith);
  sound = sound;
  genesis_sound = sound;
  behind = ap (λ (h : List AcceptedBlock). state_behind book.genesis (chain_to h (header_root_of book.genesis))) none;
  known = inl refl;
}

-- ---- the same, as code comes by it

pub begins : (config : ConfigValues) (genesis : PlainState) (book : PlainBook) (root : List ℕ) (state : PlainState) → IsSound genesis → book ≡ begun config genesis → root ≡ header_root_of genesis → state ≡ genesis
    → IsChain (record { book = book; which = 0; root = root; state = state })
begins config genesis book root state sound is root_is state_is =
    subst (λ (b : PlainBook). IsChain (record { book = b; which = 0; root = root; state = state })) (sym is)
    (subst (λ (r : List ℕ). IsChain (record { book = begun config genesis; which = 0; root = r; state = state })) (sym root_is)
    (subst (λ (s : PlainState). IsChain (record { book = begun config genesis; which = 0; root = header_root_of genesis; state = s })) (sym state_is) (no_block config genesis sound)))

pub none_counted : (config : ConfigValues) (genesis : PlainState) (book : PlainBook) → book ≡ begun config genesis → length book.first + length book.second ≡ 0
unfolding begun
none_counted config genesis book is = ap (λ (b : PlainBook). length b.first + length b.second) is

pub turns : (book : PlainBook) (genesis : PlainState) (root : List ℕ) (state : PlainState) → genesis ≡ book.genesis → book.second ≡ [] → IsSound book.genesis → root ≡ header_root_of genesis → state ≡ genesis → IsChain (record { book = book; which = 1; root = root; state = state })
turns book genesis root state is none sound root_is state_is =
    subst (λ (r : List ℕ). IsChain (record { book = book; which = 1; root = r; state = state })) (sym (root_is ∙ ap header_root_of is))
    (subst (λ (s : PlainState). IsChain (record { book = book; which = 1; root = header_root_of book.genesis; state = s })) (sym (state_is ∙ is)) (turned book none sound))

pub goes_on : (view chain : PlainChain) (signed : SignedBeaconBlock) (step : Stepped) → chain ≡ view → state_transition view.state signed view.book.config ≡ done step → state_transition chain.state signed chain.book.config ≡ done step
goes_on view chain signed step is goes = ap (λ (c : PlainChain). state_transition c.state signed c.book.config) is ∙ goes

-- ---- a step, by what a watch becomes

same_done : (x y : PlainState × PlainWatch) → done x ≡ done y → x ≡ y
same_done x y e = cc

reached_by : (genesis : PlainState) (outcome : Outcome Stepped) (state : PlainState) (now : PlainWatch) → showing with_entered (record { genesis = genesis; entered = [] }) outcome ≡ done (state, now)
    → (now.genesis ≡ genesis) × (outcome ≡ done (record { state = state; entered = now.entered }))
unfolding showing
reached_by genesis (done step) state now gives =
    let both : (step.state, shown_all with_entered (record { genesis = genesis; entered = [] }) step.entered) ≡ (state, now) = same_done _ _ gives in
    let state_is : step.state ≡ state = ap (λ (p : PlainState × PlainWatch). p.0) both in
    let shown : shown_all with_entered (record { genesis = genesis; entered = [] }) step.entered ≡ now = ap (λ (p : PlainState × PlainWatch). p.1) both in
    let seen : record { genesis = genesis; entered = step.entered } ≡ now = sym (watched genesis step.entered) ∙ shown in (
      sym (ap (λ (w : PlainWatch). w.genesis) seen),
      ap (λ (s : PlainState). done (record { state = s; entered = step.entered })) state_is
          ∙ ap (λ (w : PlainWatch). done (record { state = state; entered = w.entered })) seen,
    )
reached_by genesis (refused why) state now gives = absurd cc
reached_by genesis (limited bound) state now gives = absurd cc

pub reached : (view chain : PlainChain) (signed : SignedBeaconBlock) (config : ConfigValues) (old now : PlainWatch) (r : Result PlainState Stop) → chain ≡ view → config ≡ chain.book.config → old ≡ record { genesis = view.book.genesis; entered = [] }
    → GivesBy (λ (s : PlainState). (s, now)) r (showing with_entered old (state_transition chain.state signed config))
    → IfOk r (λ s. now.genesis ≡ view.book.genesis) × Reaches r now.entered (state_transition view.state signed view.book.config)
reached view chain signed config old now r is config_is fresh gives =
    by r (subst (λ (w : PlainWatch). GivesBy (λ (s : PlainState). (s, now)) r (showing with_entered w (state_transition view.state signed view.book.config))) fresh
    (subst (λ (c : PlainChain). GivesBy (λ (s : PlainState). (s, now)) r (showing with_entered old (state_transition c.state signed c.book.config))) is
    (subst (λ (k : ConfigValues). GivesBy (λ (s : PlainState). (s, now)) r (showing with_entered old (state_transition chain.state signed k))) config_is gives)))
  where
    by : (r : Result PlainState Stop) → GivesBy (λ (s : PlainState). (s, now)) r (showing with_entered (record { genesis = view.book.genesis; entered = [] }) (state_transition view.state signed view.book.config))
        → IfOk r (λ s. now.genesis ≡ view.book.genesis) × Reaches r now.entered (state_transition view.state signed view.book.config)
    by (Ok s) gives = reached_by view.book.genesis (state_transition view.state signed view.book.config) s now gives
    by (Err stop) gives = (tt, still stop (state_transition view.state signed view.book.config) gives)
      where
        still : (stop : Stop) (outcome : Outcome Stepped) → Stops stop (showing with_entered (record { genesis = view.book.genesis; entered = [] }) outcome) → Stops stop outcome
        still stop outcome stops = stops_shown with_entered _ stop outcome stops

pub next_of : (chain : PlainChain) (count : ℕ) (genesis : PlainState) (config : ConfigValues) (b : AcceptedBlock) (book : PlainBook) → IsChain chain → genesis ≡ chain.book.genesis → config ≡ chain.book.config → length chain.book.first + length chain.book.second ≡ count → IsSound b.state → book ≡ with_block chain.book chain.which b
    → IsChain (record { book = book; which = chain.which; root = b.root; state = b.state }) × (genesis ≡ book.genesis) × (config ≡ book.config) × (length book.first + length book.second ≡ count + 1)
next_of chain count genesis config b book is genesis_is config_is counted sound grown = (
  subst (λ (k : PlainBook). IsChain (record { book = k; which = chain.which; root = b.root; state = b.state })) (sym grown) (next_end chain b is sound),
  genesis_is ∙ sym (one_genesis chain.book chain.which b is.which) ∙ ap (λ (k : PlainBook). k.genesis) (sym grown),
  config_is ∙ sym (one_config chain.book chain.which b is.which) ∙ ap (λ (k : PlainBook). k.config) (sym grown),
  ap (λ (k : PlainBook). length k.first + length k.second) grown ∙ one_more chain.book chain.which b is.which ∙ ap (λ (n : ℕ). n + 1) counted,
)
