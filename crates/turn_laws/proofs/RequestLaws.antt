-- 01 and 02: one law for each way out. Closed by cases on the state, and by the tests on the way.
use Rattle.std.specs.Prelude.{None, Option, Some, Result, Ok, Err, is_some}
use Prim.Native.Nat.{ℕ, zero, suc, ◌<◌, ◌≤◌}
use mathlib.Core.Path.{◌≡◌, refl, ap, sym, ◌∙◌}
use mathlib.Core.Bool.{Bool, true, false, not}
use mathlib.Core.List.{List, [], ◌∷◌, ◌++◌, append-nil}
use native.Mathlib.Omega.{arith}
use borrow.Author.Tests.{le-leb, lt-leb}
use lib.Dec.{eqb, leb}
use lib.ListN.{length}
use lib.Seq.{length-take-le}
use Rattle.octets.specs.Choice.{pick, either}
use Rattle.frame.specs.declared.Header.{Header}
use Rattle.frame.specs.declared.Fault.{Fault}
use Rattle.frame.specs.declared.Whole.{Whole}
use Rattle.frame.specs.Message.{Message}
use Rattle.frame.specs.Encoding.{weight}
use Rattle.frame.specs.Reading.{octet, reading_of}
use Rattle.frame.specs.Decoding.{message_at, two_octets, held_at}
use Rattle.frame.specs.Stripping.{bare_to}
use Rattle.frame.proofs.BareLaws.{bare-length}
use Rattle.book.specs.declared.Terms.{Terms}
use Rattle.book.specs.declared.Unit.{Unit as Value}
use Rattle.book.specs.declared.Turn.{Turn}
use Rattle.book.specs.declared.Refusal.TheVariants.{WrongState, BadFrame, OtherTerms, Waits, Full}
use Rattle.book.specs.declared.Refusal.{Refusal}
use Rattle.book.specs.Book.{Msg, Frame, msg, good, send, start, dat, State, idle, single, multi, ending, assoc, Setup, refused, done, same_terms, settled, ids_of, waits, full, body_of, vet, bar_confirmed, bar, on_single, on_multi, on_shot, on_vetted, on_request}
use Rattle.book.specs.View.{needed, viewed_as, viewed, reading_in, frame_octets, msg_octets, frame_message, frame_at}
use Rattle.book.specs.Lines.{terms_octets}
use Rattle.book.specs.Turns.{takes}
use Rattle.book.specs.Waiting.{place_of}
use Rattle.book.specs.Picture.{picture, setup_of, state_of, ids_in, msg_in}
use Rattle.book.specs.Step.{Turned}
use Rattle.book.specs.Ready.{Ready, Reads}
use Rattle.book.proofs.Views.{reads_made, know, view_octets, faulty_reading, whole_reading, plain_in, sure_in, plain_view, sure_view}
use Rattle.said.specs.declared.Pen.{Pen}
use Rattle.said.specs.Pens.{Laid}
use Rattle.turn_laws.specs.Moves.{advanced, entered, keeping, appended, joined}
use Rattle.said.specs.Saying.{said, fresh, msg_at}
use Rattle.turn_laws.proofs.Moved.{not_taken, fresh_is, sent_is, opened_single, opened_multi}
use Rattle.turn_laws.proofs.Gave.{Goes, went, turned_as}

-- ---- the message of a request

module _ (f : List ℕ) (h : Header) where
  pub msg_plain : h.confirmation ≡ 0 → msg_at f h ≡ plain_in (message_at f h)
  unfolding msg_at message_at
  msg_plain c = ap (λ (g : Frame). msg_in (good g 0)) (plain_view (message_at f h) c)

  pub msg_sure : h.confirmation ≡ 1 → msg_at f h ≡ sure_in (message_at f h)
  unfolding msg_at message_at
  msg_sure c = ap (λ (g : Frame). msg_in (good g 0)) (sure_view (message_at f h) c)

  msg_by : (c : ℕ) → h.confirmation ≡ c → c < 2 → frame_at f h ≡ msg (msg_at f h)
  unfolding message_at
  msg_by zero e l = plain_view (message_at f h) e ∙ ap msg (sym (msg_plain e))
  msg_by (suc zero) e l = sure_view (message_at f h) e ∙ ap msg (sym (msg_sure e))
  msg_by (suc (suc c)) e l = absurd (omega arith)

  pub msg_view : h.confirmation < 2 → frame_at f h ≡ msg (msg_at f h)
  msg_view l = msg_by h.confirmation refl l

  pub shot_is : h.confirmation < 2 → (body_of (msg_at f h)).maintained ≡ h.multi_shot
  unfolding body_of message_at
  shot_is l = by h.confirmation refl l
    where
      by : (c : ℕ) → h.confirmation ≡ c → c < 2 → (body_of (msg_at f h)).maintained ≡ h.multi_shot
      by zero e l = ap (λ (m : Msg). (body_of m).maintained) (msg_plain e)
      by (suc zero) e l = ap (λ (m : Msg). (body_of m).maintained) (msg_sure e)
      by (suc (suc c)) e l = absurd (omega arith)

  module _ (w : Reads f h 0) (l : h.confirmation < 2) where
    pub msg_octets_lem : msg_octets (msg_at f h) ≡ bare_to f h.end
    unfolding msg_octets frame_octets frame_message
    msg_octets_lem = ap frame_octets (sym (msg_view l)) ∙ view_octets f h w

    pub msg_whole : msg_octets (msg_at f h) ≡ f
    msg_whole = msg_octets_lem ∙ (know f h w).whole refl

    pub frame_short : length f ≤ 554
    frame_short =
        let k = know f h w in
        let b = bare-length f h.end (omega arith) k.within in
        omega (arith, ap length (k.whole refl))

-- ---- a confirmed identifier waits

module _ (f : List ℕ) (h : Header) (u : Value) where
  pub join_sure : (i : Option ℕ) {id : ℕ} {v : Value} → h.confirmation ≡ 1 → i ≡ two_octets (held_at f h.identifier) → id ≡ needed i → v ≡ appended u id →
      v ≡ joined u (ids_of (msg_at f h))
  unfolding ids_of message_at
  join_sure i c ei er ev = ev ∙ ap (appended u) (er ∙ ap needed ei) ∙ sym (ap (λ (m : Msg). joined u (ids_of m)) (msg_sure f h c))

  pub join_plain : h.confirmation < 2 → (h.confirmation ≡ 1 → ⊥) → u ≡ joined u (ids_of (msg_at f h))
  unfolding ids_of
  join_plain l n = sym (ap (λ (m : Msg). joined u (ids_of m)) (msg_plain f h (by h.confirmation refl l)))
    where
      by : (c : ℕ) → h.confirmation ≡ c → c < 2 → h.confirmation ≡ 0
      by zero e l = e
      by (suc zero) e l = absurd (n e)
      by (suc (suc c)) e l = absurd (omega arith)

-- ---- the rules, by the state

module _ (s : Setup) (u : Value) where
  single_goes : (st : State) → u ≡ picture s st → u.state ≡ 0 → (a : Terms) (m : Msg) →
      Goes s (on_single a m st) (joined (entered u 1 (settled a)) (ids_of m)) (send (start (settled a) (Some (good (msg m) 0))) ∷ [])
  unfolding on_single
  single_goes idle e n a m = record { next = single (settled a) (ids_of m) 0; outcome = refl; value = opened_single s (settled a) u e m }
  single_goes (single T w t) e n a m = let z : ◌≡◌ {A = ℕ} 1 0 = rw e at n in absurd (omega arith)
  single_goes (multi T k t) e n a m = let z : ◌≡◌ {A = ℕ} 2 0 = rw e at n in absurd (omega arith)
  single_goes (ending T w t) e n a m = let z : ◌≡◌ {A = ℕ} 3 0 = rw e at n in absurd (omega arith)
  single_goes (assoc T w t) e n a m = let z : ◌≡◌ {A = ℕ} 4 0 = rw e at n in absurd (omega arith)

  multi_goes : (st : State) → u ≡ picture s st → u.state ≡ 0 → (o : Option Refusal) (a : Terms) (m : Msg) →
      Goes s (on_multi o a m st) (joined (keeping (entered u 2 (settled a)) (msg_octets m)) (ids_of m)) (send (start (settled a) None) ∷ [])
  unfolding on_multi
  multi_goes idle e n o a m = record { next = multi (settled a) m 0; outcome = refl; value = opened_multi s (settled a) u e m }
  multi_goes (single T w t) e n o a m = let z : ◌≡◌ {A = ℕ} 1 0 = rw e at n in absurd (omega arith)
  multi_goes (multi T k t) e n o a m = let z : ◌≡◌ {A = ℕ} 2 0 = rw e at n in absurd (omega arith)
  multi_goes (ending T w t) e n o a m = let z : ◌≡◌ {A = ℕ} 3 0 = rw e at n in absurd (omega arith)
  multi_goes (assoc T w t) e n o a m = let z : ◌≡◌ {A = ℕ} 4 0 = rw e at n in absurd (omega arith)

  -- the refusal that a message meets in Associated
  abbrev barred : Terms → Msg → Option Refusal
  barred a m = pick (same_terms (settled a) u.terms) (bar_confirmed m (ids_in u)) (Some OtherTerms)

  bar_is : (st : State) → u ≡ picture s st → u.state ≡ 4 → (a : Terms) (m : Msg) → bar a m st ≡ barred a m
  unfolding bar
  bar_is idle e n a m = let z : ◌≡◌ {A = ℕ} 0 4 = rw e at n in absurd (omega arith)
  bar_is (single T w t) e n a m = let z : ◌≡◌ {A = ℕ} 1 4 = rw e at n in absurd (omega arith)
  bar_is (multi T k t) e n a m = let z : ◌≡◌ {A = ℕ} 2 4 = rw e at n in absurd (omega arith)
  bar_is (ending T w t) e n a m = let z : ◌≡◌ {A = ℕ} 3 4 = rw e at n in absurd (omega arith)
  bar_is (assoc T w t) e n a m = rw e (ap (λ l. pick (same_terms (settled a) T) (bar_confirmed m l) (Some OtherTerms)) (sym (Rattle.turn_laws.proofs.Moved.take-padded 8 w)))

  refused_is : (st : State) → u ≡ picture s st → u.state ≡ 4 → (k : Refusal) (a : Terms) (m : Msg) → on_multi (Some k) a m st ≡ refused k
  unfolding on_multi
  refused_is idle e n k a m = let z : ◌≡◌ {A = ℕ} 0 4 = rw e at n in absurd (omega arith)
  refused_is (single T w t) e n k a m = let z : ◌≡◌ {A = ℕ} 1 4 = rw e at n in absurd (omega arith)
  refused_is (multi T q t) e n k a m = let z : ◌≡◌ {A = ℕ} 2 4 = rw e at n in absurd (omega arith)
  refused_is (ending T w t) e n k a m = let z : ◌≡◌ {A = ℕ} 3 4 = rw e at n in absurd (omega arith)
  refused_is (assoc T w t) e n k a m = refl

  next_plain : (st : State) → u ≡ picture s st → u.state ≡ 4 → (a : Terms) (m : Msg) → ids_of m ≡ [] →
      Goes s (on_multi None a m st) (advanced u 4 0) (send (dat (good (msg m) 0)) ∷ [])
  unfolding on_multi
  next_plain idle e n a m i = let z : ◌≡◌ {A = ℕ} 0 4 = rw e at n in absurd (omega arith)
  next_plain (single T w t) e n a m i = let z : ◌≡◌ {A = ℕ} 1 4 = rw e at n in absurd (omega arith)
  next_plain (multi T q t) e n a m i = let z : ◌≡◌ {A = ℕ} 2 4 = rw e at n in absurd (omega arith)
  next_plain (ending T w t) e n a m i = let z : ◌≡◌ {A = ℕ} 3 4 = rw e at n in absurd (omega arith)
  next_plain (assoc T w t) e n a m i =
      record { next = assoc T w 0; outcome = ap (λ l. done (assoc T l 0) (send (dat (good (msg m) 0)) ∷ [])) (ap (λ l. w ++ l) i ∙ append-nil w); value = fresh_is s T w t u e }

  next_sure : (st : State) → u ≡ picture s st → u.state ≡ 4 → u.count < 8 → (a : Terms) (m : Msg) (i : ℕ) → ids_of m ≡ i ∷ [] →
      Goes s (on_multi None a m st) (appended (advanced u 4 0) i) (send (dat (good (msg m) 0)) ∷ [])
  unfolding on_multi
  next_sure idle e n l a m i q = let z : ◌≡◌ {A = ℕ} 0 4 = rw e at n in absurd (omega arith)
  next_sure (single T w t) e n l a m i q = let z : ◌≡◌ {A = ℕ} 1 4 = rw e at n in absurd (omega arith)
  next_sure (multi T k t) e n l a m i q = let z : ◌≡◌ {A = ℕ} 2 4 = rw e at n in absurd (omega arith)
  next_sure (ending T w t) e n l a m i q = let z : ◌≡◌ {A = ℕ} 3 4 = rw e at n in absurd (omega arith)
  next_sure (assoc T w t) e n l a m i q =
      record { next = assoc T (w ++ (i ∷ [])) 0; outcome = ap (λ l. done (assoc T (w ++ l) 0) (send (dat (good (msg m) 0)) ∷ [])) q; value = sent_is s T w t u i e (rw e at l) }

  -- a state that the turn table does not give
  single_refused : (st : State) → u ≡ picture s st → takes u.state 0 ≡ false → (a : Terms) (m : Msg) → on_single a m st ≡ refused WrongState
  unfolding on_single takes
  single_refused idle e t a m = not_taken (sym (rw e at t))
  single_refused (single T w t₀) e t a m = refl
  single_refused (multi T k t₀) e t a m = refl
  single_refused (ending T w t₀) e t a m = refl
  single_refused (assoc T w t₀) e t a m = refl

  multi_refused : (st : State) → u ≡ picture s st → takes u.state 1 ≡ false → (o : Option Refusal) (a : Terms) (m : Msg) → on_multi o a m st ≡ refused WrongState
  unfolding on_multi takes
  multi_refused idle e t o a m = not_taken (sym (rw e at t))
  multi_refused (single T w t₀) e t o a m = refl
  multi_refused (multi T k t₀) e t o a m = refl
  multi_refused (ending T w t₀) e t o a m = refl
  multi_refused (assoc T w t₀) e t o a m = not_taken (sym (rw e at t))

  taken_single : (st : State) → u ≡ picture s st → takes u.state 0 ≡ true → u.state ≡ 0
  unfolding takes
  taken_single idle e t = rw e
  taken_single (single T w t₀) e t = not_taken (rw e at t)
  taken_single (multi T k t₀) e t = not_taken (rw e at t)
  taken_single (ending T w t₀) e t = not_taken (rw e at t)
  taken_single (assoc T w t₀) e t = not_taken (rw e at t)

  taken_multi : (st : State) → u ≡ picture s st → takes u.state 1 ≡ true → (u.state ≡ 0 → ⊥) → u.state ≡ 4
  unfolding takes
  taken_multi idle e t n = absurd (n (rw e))
  taken_multi (single T w t₀) e t n = not_taken (rw e at t)
  taken_multi (multi T k t₀) e t n = not_taken (rw e at t)
  taken_multi (ending T w t₀) e t n = not_taken (rw e at t)
  taken_multi (assoc T w t₀) e t n = rw e

-- ---- who waits already

found_pick : (b : Bool) (i : ℕ) (f : Option ℕ) → is_some (pick b (Some i) f) ≡ either b (is_some f)
found_pick true i f = refl
found_pick false i f = refl

waits_found : (x k : ℕ) (w : List ℕ) → waits x w ≡ is_some (place_of x k w)
waits_found x k [] = refl
waits_found x k (y ∷ w) = ap (either (eqb x y)) (waits_found x (suc k) w) ∙ sym (found_pick (eqb x y) k (place_of x (suc k) w))

-- ---- the ways out

module _ {u : Value} (k : Ready u) {f : List ℕ} {h : Header} (w : Reads f h 0) where
  abbrev S : Setup
  S = setup_of u

  abbrev T : State
  T = state_of u

  abbrev M : Msg
  M = msg_at f h

  module _ (a : Terms) where
    pub asked_single : {t : Terms} {v x : Value} {r : Turn} {before after : List ℕ} {p : Pen} → u.state ≡ 0 → h.confirmation < 2 → t ≡ settled a
        → Laid before fresh ((0x30 ∷ t.class ∷ t.priority ∷ t.rer ∷ bare_to f h.end) ∷ []) after p → v ≡ entered u 1 t → x ≡ joined v (ids_of (msg_at f h))
        → r ≡ record { unit = x; verdict = Ok (record { lines = p.lines; octets = p.at }) } → Turned u (on_single a (msg_at f h) (state_of u)) before r after
    unfolding msg_octets frame_octets frame_message
    asked_single {t = t} n l et y ev ex q =
        went (single_goes S u T k.whole n a M) (ex ∙ ap (λ z. joined z (ids_of M)) (ev ∙ ap (entered u 1) et))
        (ap (λ z. (0x30 ∷ (terms_octets z ++ bare_to f h.end)) ∷ []) et ∙ ap (λ z. (0x30 ∷ (terms_octets (settled a) ++ z)) ∷ []) (sym (msg_octets_lem f h w l))) y q

    pub asked_multi : {t : Terms} {v x y : Value} {r : Turn} {before after : List ℕ} {p : Pen} → u.state ≡ 0 → h.confirmation < 2 → t ≡ settled a
        → Laid before fresh ((0x30 ∷ t.class ∷ t.priority ∷ t.rer ∷ []) ∷ []) after p → v ≡ entered u 2 t → x ≡ keeping v f → y ≡ joined x (ids_of (msg_at f h))
        → r ≡ record { unit = y; verdict = Ok (record { lines = p.lines; octets = p.at }) }
        → Turned u (on_multi (bar a (msg_at f h) (state_of u)) a (msg_at f h) (state_of u)) before r after
    asked_multi {t = t} n l et z ev ex ey q =
        went (multi_goes S u T k.whole n (bar a M T) a M)
        (ey ∙ ap (λ z. joined z (ids_of M)) (ex ∙ ap (keeping _) (sym (msg_whole f h w l)) ∙ ap (λ z. keeping z (msg_octets M)) (ev ∙ ap (entered u 2) et)))
        (ap (λ z. (0x30 ∷ (terms_octets z ++ [])) ∷ []) et) z q

    -- ---- in Associated
    module _ (n : u.state ≡ 4) where
      pub ask_3 : {t : Terms} {b : Bool} → t ≡ settled a → b ≡ same_terms t u.terms → not b ≡ true →
          on_multi (bar a (msg_at f h) (state_of u)) a (msg_at f h) (state_of u) ≡ refused OtherTerms
      ask_3 et eb z =
          ap (λ o. on_multi o a M T)
          (bar_is S u T k.whole n a M ∙ ap (λ y. pick y (bar_confirmed M (ids_in u)) (Some OtherTerms)) (ap (λ y. same_terms y u.terms) (sym et) ∙ sym eb ∙ borrow.Author.Tests.not-true _ z))
          ∙ refused_is S u T k.whole n OtherTerms a M

      pub same_made : {t : Terms} {b : Bool} → t ≡ settled a → b ≡ same_terms t u.terms → not b ≡ false → same_terms (settled a) u.terms ≡ true
      same_made et eb z = ap (λ y. same_terms y u.terms) (sym et) ∙ sym eb ∙ borrow.Author.Tests.not-false _ z

      module _ (same : same_terms (settled a) u.terms ≡ true) where
        bar_same : bar a M T ≡ bar_confirmed M (ids_in u)
        bar_same = bar_is S u T k.whole n a M ∙ ap (λ y. pick y (bar_confirmed M (ids_in u)) (Some OtherTerms)) same

        line_is : h.confirmation < 2 → (0x32 ∷ bare_to f h.end) ∷ [] ≡ said (send (dat (good (msg M) 0)) ∷ [])
        unfolding msg_octets frame_octets frame_message
        line_is l = ap (λ z. (0x32 ∷ z) ∷ []) (sym (msg_octets_lem f h w l))

        pub asked_next_plain : {v : Value} {r : Turn} {before after : List ℕ} {p : Pen} → h.confirmation ≡ 0
            → Laid before fresh ((0x32 ∷ bare_to f h.end) ∷ []) after p → v ≡ advanced u 4 0
            → r ≡ record { unit = v; verdict = Ok (record { lines = p.lines; octets = p.at }) }
            → Turned u (on_multi (bar a (msg_at f h) (state_of u)) a (msg_at f h) (state_of u)) before r after
        unfolding bar_confirmed ids_of
        asked_next_plain c x e q =
            turned_as (ap (λ o. on_multi o a M T) (bar_same ∙ ap (λ m. bar_confirmed m (ids_in u)) (msg_plain f h c)))
            (went (next_plain S u T k.whole n a M (ap ids_of (msg_plain f h c))) e (line_is (omega arith)) x q)

        module _ (c : h.confirmation ≡ 1) (i : Option ℕ) {id : ℕ} {g : Option ℕ} (ei : i ≡ two_octets (held_at f h.identifier)) (er : id ≡ needed i)
            (eg : g ≡ place_of id 0 (ids_in u)) where
          id_is : ids_of M ≡ id ∷ []
          unfolding ids_of message_at
          id_is = ap ids_of (msg_sure f h c) ∙ ap (λ y. y ∷ []) (sym (er ∙ ap needed ei))

          bar_found : bar a M T ≡ pick (is_some g) (Some Waits) (pick (leb 8 (length (ids_in u))) (Some Full) None)
          unfolding bar_confirmed full message_at
          bar_found =
              bar_same ∙ ap (λ m. bar_confirmed m (ids_in u)) (msg_sure f h c)
              ∙ ap (λ y. pick y (Some Waits) (pick (leb 8 (length (ids_in u))) (Some Full) None))
              (ap (λ y. waits y (ids_in u)) (sym (er ∙ ap needed ei)) ∙ waits_found id 0 (ids_in u) ∙ ap is_some (sym eg))

          pub ask_4 : {j : ℕ} → g ≡ Some j → on_multi (bar a (msg_at f h) (state_of u)) a (msg_at f h) (state_of u) ≡ refused Waits
          ask_4 e = ap (λ o. on_multi o a M T) (bar_found ∙ ap (λ y. pick (is_some y) (Some Waits) (pick (leb 8 (length (ids_in u))) (Some Full) None)) e) ∙ refused_is S u T k.whole n Waits a M

          module _ (e : g ≡ None) where
            bar_full : bar a M T ≡ pick (leb 8 u.count) (Some Full) None
            bar_full =
                bar_found ∙ ap (λ y. pick (is_some y) (Some Waits) (pick (leb 8 (length (ids_in u))) (Some Full) None)) e
                ∙ ap (λ y. pick (leb 8 y) (Some Full) None) (length-take-le u.count u.waiting (omega arith))

            pub ask_5 : 8 ≤ u.count → on_multi (bar a (msg_at f h) (state_of u)) a (msg_at f h) (state_of u) ≡ refused Full
            ask_5 l = ap (λ o. on_multi o a M T) (bar_full ∙ ap (λ y. pick y (Some Full) None) (le-leb 8 u.count l)) ∙ refused_is S u T k.whole n Full a M

            pub asked_next_sure : {v x : Value} {r : Turn} {before after : List ℕ} {p : Pen} → u.count < 8
                → Laid before fresh ((0x32 ∷ bare_to f h.end) ∷ []) after p → v ≡ advanced u 4 0 → x ≡ appended v id
                → r ≡ record { unit = x; verdict = Ok (record { lines = p.lines; octets = p.at }) }
                → Turned u (on_multi (bar a (msg_at f h) (state_of u)) a (msg_at f h) (state_of u)) before r after
            asked_next_sure l y ev ex q =
                turned_as (ap (λ o. on_multi o a M T) (bar_full ∙ ap (λ y. pick y (Some Full) None) (lt-leb 8 u.count l)))
                (went (next_sure S u T k.whole n l a M id id_is) (ex ∙ ap (λ z. appended z id) ev) (line_is (omega arith)) y q)

-- ---- by the turn table

module _ {u : Value} (k : Ready u) where
  pub idle_single : takes u.state 0 ≡ true → u.state ≡ 0
  idle_single t = taken_single (setup_of u) u (state_of u) k.whole t

  pub next_multi : takes u.state 1 ≡ true → (u.state ≡ 0 → ⊥) → u.state ≡ 4
  next_multi t n = taken_multi (setup_of u) u (state_of u) k.whole t n

  module _ (a : Terms) (f : List ℕ) (h : Header) {b : Bool} where
    pub shot_multi : {before after : List ℕ} {r : Turn} → b ≡ true → Turned u (on_multi (bar a (msg_at f h) (state_of u)) a (msg_at f h) (state_of u)) before r after →
        Turned u (on_shot b a (msg_at f h) (state_of u)) before r after
    unfolding on_shot
    shot_multi e g = turned_as (ap (λ (x : Bool). on_shot x a (msg_at f h) (state_of u)) e) g

    pub shot_single : {before after : List ℕ} {r : Turn} → b ≡ false → Turned u (on_single a (msg_at f h) (state_of u)) before r after →
        Turned u (on_shot b a (msg_at f h) (state_of u)) before r after
    unfolding on_shot
    shot_single e g = turned_as (ap (λ (x : Bool). on_shot x a (msg_at f h) (state_of u)) e) g

    pub multi_1 : b ≡ true → {x : Bool} → x ≡ takes u.state 1 → x ≡ false → on_shot b a (msg_at f h) (state_of u) ≡ refused WrongState
    unfolding on_shot
    multi_1 e q z = ap (λ (x : Bool). on_shot x a (msg_at f h) (state_of u)) e ∙ multi_refused (setup_of u) u (state_of u) k.whole (sym q ∙ z) (bar a (msg_at f h) (state_of u)) a (msg_at f h)

    pub single_1 : b ≡ false → {x : Bool} → x ≡ takes u.state 0 → x ≡ false → on_shot b a (msg_at f h) (state_of u) ≡ refused WrongState
    unfolding on_shot
    single_1 e q z = ap (λ (x : Bool). on_shot x a (msg_at f h) (state_of u)) e ∙ single_refused (setup_of u) u (state_of u) k.whole (sym q ∙ z) a (msg_at f h)

-- ---- from the octets

vet_extended : (c : Bool) (f : Frame) (n : ℕ) → (n ≡ 0 → ⊥) → vet c (good f n) ≡ None
unfolding vet
vet_extended c f zero z = absurd (z refl)
vet_extended c f (suc n) z = refl

-- the confirmation that a request wants, and every other
vet_no : (c : Bool) (k : ℕ) (m : Message) → (k ≡ weight c 1 → ⊥) → vet c (good (viewed_as k m) 0) ≡ None
unfolding vet
vet_no true zero m n = refl
vet_no true (suc zero) m n = absurd (n refl)
vet_no false zero m n = absurd (n refl)
vet_no false (suc zero) m n = refl
vet_no c (suc (suc zero)) m n = refl
vet_no c (suc (suc (suc zero))) m n = refl
vet_no c (suc (suc (suc (suc k)))) m n = refl

vet_yes : (c : Bool) (k : ℕ) (m : Message) → k ≡ weight c 1 → vet c (good (viewed_as k m) 0) ≡ Some (msg_in (good (viewed_as k m) 0))
unfolding vet
vet_yes true k m e = ap (λ (k : ℕ). vet true (good (viewed_as k m) 0)) e ∙ sym (ap (λ (k : ℕ). Some (msg_in (good (viewed_as k m) 0))) e)
vet_yes false k m e = ap (λ (k : ℕ). vet false (good (viewed_as k m) 0)) e ∙ sym (ap (λ (k : ℕ). Some (msg_in (good (viewed_as k m) 0))) e)

module _ (u : Value) (confirmed : Bool) (a : Terms) (f : List ℕ) {x : Result Whole Fault} (q : x ≡ reading_of f) where
  pub ask_faulty : {y : Fault} → x ≡ Err y → on_request confirmed a (reading_in f) (state_of u) ≡ refused BadFrame
  unfolding on_request on_vetted vet
  ask_faulty e = ap (λ y. on_vetted a (vet confirmed y) (state_of u)) (faulty_reading f q e)

  module _ {v : Whole} (e : x ≡ Ok v) where
    reading_is : on_request confirmed a (reading_in f) (state_of u) ≡ on_vetted a (vet confirmed (good (frame_at f v.header) v.extensions)) (state_of u)
    unfolding on_request
    reading_is = ap (λ y. on_vetted a (vet confirmed y) (state_of u)) (whole_reading f v q e)

    pub ask_extended : (v.extensions ≡ 0 → ⊥) → on_request confirmed a (reading_in f) (state_of u) ≡ refused BadFrame
    unfolding on_vetted
    ask_extended z = reading_is ∙ ap (λ y. on_vetted a y (state_of u)) (vet_extended confirmed (frame_at f v.header) v.extensions z)

    module _ (z : v.extensions ≡ 0) {k : ℕ} (ek : k ≡ weight confirmed 1) where
      zero_is : on_request confirmed a (reading_in f) (state_of u) ≡ on_vetted a (vet confirmed (good (frame_at f v.header) 0)) (state_of u)
      zero_is = reading_is ∙ ap (λ (m : ℕ). on_vetted a (vet confirmed (good (frame_at f v.header) m)) (state_of u)) z

      pub ask_other : (v.header.confirmation ≡ k → ⊥) → on_request confirmed a (reading_in f) (state_of u) ≡ refused BadFrame
      unfolding on_vetted viewed message_at
      ask_other n = zero_is ∙ ap (λ y. on_vetted a y (state_of u)) (vet_no confirmed v.header.confirmation (message_at f v.header) (λ y. n (y ∙ sym ek)))

      pub ask_vetted : {before after : List ℕ} {r : Turn} → v.header.confirmation ≡ k → k < 2 → Turned u (on_shot v.header.multi_shot a (msg_at f v.header) (state_of u)) before r after →
          Turned u (on_request confirmed a (reading_in f) (state_of u)) before r after
      unfolding on_vetted viewed message_at msg_at
      ask_vetted c l g =
          turned_as (zero_is ∙ ap (λ y. on_vetted a y (state_of u)) (vet_yes confirmed v.header.confirmation (message_at f v.header) (c ∙ ek))
          ∙ ap (λ (b : Bool). on_shot b a (msg_at f v.header) (state_of u)) (shot_is f v.header (omega arith))) g

pub reads_zero : (f : List ℕ) (v : Whole) {x : Result Whole Fault} → x ≡ reading_of f → x ≡ Ok v → v.extensions ≡ 0 → ((i : ℕ) → octet f i < 256) → Reads f v.header 0
reads_zero f v q e z small = rw z at (reads_made f v q e small)

-- ---- nobody waits in Idle, so there is room for one

idle_count : (s : Setup) (u : Value) (st : State) → u ≡ picture s st → u.state ≡ 0 → u.count ≡ 0
idle_count s u idle e n = rw e
idle_count s u (single T w t) e n = let z : ◌≡◌ {A = ℕ} 1 0 = rw e at n in absurd (omega arith)
idle_count s u (multi T k t) e n = let z : ◌≡◌ {A = ℕ} 2 0 = rw e at n in absurd (omega arith)
idle_count s u (ending T w t) e n = let z : ◌≡◌ {A = ℕ} 3 0 = rw e at n in absurd (omega arith)
idle_count s u (assoc T w t) e n = let z : ◌≡◌ {A = ℕ} 4 0 = rw e at n in absurd (omega arith)

module _ {u : Value} (k : Ready u) (z : u.state ≡ 0) (n : ℕ) (t : Terms) {v : Value} (e : v ≡ entered u n t) where
  pub idle_room : v.count < 8
  unfolding entered
  idle_room = omega (arith, ap (λ (y : Value). y.count) e, idle_count (setup_of u) u (state_of u) k.whole z)

  pub kept_room : (f : List ℕ) {x : Value} → x ≡ keeping v f → x.count < 8
  unfolding entered keeping
  kept_room f q = omega (arith, ap (λ (y : Value). y.count) q, ap (λ (y : Value). y.count) e, idle_count (setup_of u) u (state_of u) k.whole z)
