-- What is written down of a dialogue in octets, and what the rule book's model writes down of it in messages: the same. Closed by cases on the
-- output line.
use Rattle.std.specs.Prelude.{Option, Some}
use Prim.Native.Nat.{ℕ}
use mathlib.Core.Path.{◌≡◌, refl, ap, sym, ◌∙◌}
use mathlib.Core.Bool.{false}
use mathlib.Core.List.{List, [], ◌∷◌, ◌++◌, map, append-nil, append_assoc}
use lib.Dec.{eqb}
use lib.ListN.{drop}
use Rattle.octets.specs.Choice.{pick}
use Rattle.frame.specs.Message.{Message, Extension}
use Rattle.book.specs.declared.Terms.{Terms}
use Rattle.book.specs.Book.{Msg, plain, sure, Frame, msg, note, Line, start, reply, dat, fin, fin_ok, cut, Result, success, failed, uncertain, Out, give, answer, ended, gone, seen, send, ids_of}
use Rattle.book.specs.View.{msg_message, frame_message, msg_octets, frame_octets}
use Rattle.book.specs.Lines.{line_of}
use Rattle.pair_laws.specs.Model as M
use Rattle.pair_laws.specs.Model.{Fate, broken, ask}
use Rattle.pair_laws.specs.Statement.{ids}
use Rattle.pair_laws.proofs.Named.{Names, names, NamedOut, n_answer, AllNamed, n_none, n_also}
use Rattle.link.specs.Wire.{kind_of, extended, handed_over}
use Rattle.link.specs.Link.{Log, note_handed, note_given, note_told, note_fate, note_message, note_line, note_lines, fields_in, identifier, answers, answers_in, named}
use Rattle.link.proofs.Fine.{AllowedFrame, fine, nothing, held, FineLine, starts, replies, dats, fins, fin_oks, cuts, FineOut, gives, answers as tells, ends, gones, seens, sends, AllFine, none_left, also}
use Rattle.link.proofs.Frames.{none_extended, message_is, note_is_none, fields_of_lem, fields_bare, names_message, names_answer}

-- ---- a log

abbrev pub fields_of : Msg → Option Message
fields_of m = Some (msg_message m)

pub record RelLog (A : Log) (a : M.Log) : Type 0 where
  pub handed : map fields_in A.handed ≡ map fields_of a.handed
  pub given : map fields_in A.given ≡ map fields_of a.given
  pub confirmed : named identifier A.given ≡ ids a.given
  pub told : named answers A.told ≡ a.okays
  pub fate : A.fate ≡ a.fate

map_snoc : {A B : Type 0} (f : A → B) (xs : List A) (x : A) → map f (xs ++ (x ∷ [])) ≡ map f xs ++ (f x ∷ [])
map_snoc f [] x = refl
map_snoc f (y ∷ xs) x = ap (λ l. f y ∷ l) (map_snoc f xs x)

named_snoc : (g : List ℕ → List ℕ) (fs : List (List ℕ)) (f : List ℕ) → named g (fs ++ (f ∷ [])) ≡ named g fs ++ g f
named_snoc g [] f = append-nil (g f)
named_snoc g (x ∷ fs) f = ap (λ l. g x ++ l) (named_snoc g fs f) ∙ sym (append_assoc (g x) (named g fs) (g f))

ids_snoc : (ms : List Msg) (m : Msg) → ids (ms ++ (m ∷ [])) ≡ ids ms ++ ids_of m
unfolding ids
ids_snoc [] m = append-nil (ids_of m)
ids_snoc (x ∷ ms) m = ap (λ l. ids_of x ++ l) (ids_snoc ms m) ∙ sym (append_assoc (ids_of x) (ids ms) (ids_of m))

module _ {A : Log} {a : M.Log} (r : RelLog A a) where
  rel_handed : (F : List ℕ) (m : Msg) → fields_in F ≡ fields_of m → RelLog (note_handed F A) (M.log_handed (msg m) a)
  unfolding M.log_handed
  rel_handed F m e = record {
    handed = map_snoc fields_in A.handed F ∙ rw (r.handed, e) (sym (map_snoc fields_of a.handed m));
    given = r.given;
    confirmed = r.confirmed;
    told = r.told;
    fate = r.fate;
  }

  rel_given : (F : List ℕ) (m : Msg) → fields_in F ≡ fields_of m → identifier F ≡ ids_of m → RelLog (note_given F A) (M.log_given m a)
  unfolding M.log_given
  rel_given F m e i = record {
    handed = r.handed;
    given = map_snoc fields_in A.given F ∙ rw (r.given, e) (sym (map_snoc fields_of a.given m));
    confirmed = named_snoc identifier A.given F ∙ rw (r.confirmed, i) (sym (ids_snoc a.given m));
    told = r.told;
    fate = r.fate;
  }

  rel_told : (F : List ℕ) (i : ℕ) → answers F ≡ i ∷ [] → RelLog (note_told F A) (M.log_okay i a)
  unfolding M.log_okay
  rel_told F i e = record {
    handed = r.handed;
    given = r.given;
    confirmed = r.confirmed;
    told = named_snoc answers A.told F ∙ rw (r.told, e);
    fate = r.fate;
  }

  pub rel_fate : (g : Fate → Fate) → RelLog (note_fate g A) (M.log_fate g a)
  unfolding M.log_fate
  rel_fate g = record { handed = r.handed; given = r.given; confirmed = r.confirmed; told = r.told; fate = ap g r.fate }

-- ---- a line that the unit gives out

module _ (xs : List Extension) {A : Log} {a : M.Log} (r : RelLog A a) where
  -- a frame that is handed over: a message is noted, a confirmation not
  rel_frame : (f : Frame) → AllowedFrame f → RelLog (note_message (extended xs (frame_octets f)) A) (M.log_handed f a)
  unfolding M.log_handed
  rel_frame (msg m) al = rw (message_is xs m) (rel_handed r (extended xs (frame_octets (msg m))) m (fields_of_lem xs m al))
  rel_frame (note k j i q b) al = rw (note_is_none xs k j i q b) r

  rel_sent : {l : Line} → FineLine l → RelLog (note_line (handed_over xs (line_of (send l))) A) (M.log_sent l a)
  unfolding note_line handed_over M.log_sent M.log_read
  rel_sent (starts t nothing) = rw (none_extended xs) r
  rel_sent (starts t (held (fine {f} al))) = rel_frame f al
  rel_sent (replies g) = r
  rel_sent (dats (fine {f} al)) = rel_frame f al
  rel_sent fins = rel_fate r ask
  rel_sent fin_oks = r
  rel_sent cuts = rel_fate r (λ f. broken)

  rel_answer : (i : ℕ) (k : Result) (f : Frame) → AllowedFrame f → Names f i → RelLog (note_line (handed_over xs (line_of (answer i k f))) A) (M.log_out (answer i k f) a)
  unfolding note_line handed_over M.log_out
  rel_answer i success (note k j n q b) al names = rel_told r (frame_octets (note k j n q b)) j (names_answer k j n q b al)
  rel_answer i success (msg m) al n = elim n [ ]
  rel_answer i failed f al n = r
  rel_answer i uncertain f al n = r

  rel_give : (t : Terms) (m : Msg) → AllowedFrame (msg m) → RelLog (note_line (handed_over xs (line_of (give t m))) A) (M.log_out (give t m) a)
  unfolding note_line handed_over M.log_out msg_octets frame_octets frame_message
  rel_give t (plain i j q b) al = rel_given r (frame_octets (msg (plain i j q b))) (plain i j q b) (fields_bare (plain i j q b) al) (names_message (plain i j q b) al)
  rel_give t (sure i j q b) al = rel_given r (frame_octets (msg (sure i j q b))) (sure i j q b) (fields_bare (sure i j q b) al) (names_message (sure i j q b) al)

  pub rel_out : (o : Out) → FineOut o → NamedOut o → RelLog (note_line (handed_over xs (line_of o)) A) (M.log_out o a)
  unfolding note_line handed_over M.log_out
  rel_out (give t m) (gives al) n = rel_give t m al
  rel_out (answer i k f) (tells al) (n_answer n) = rel_answer i k f al n
  rel_out ended ends n = r
  rel_out (gone k) gones n = r
  rel_out (seen k) seens n = r
  rel_out (send l) (sends f) n = rel_sent f

pub rel_outs : (xs : List Extension) (os : List Out) → AllFine os → AllNamed os → {A : Log} {a : M.Log} → RelLog A a
    → RelLog (note_lines (map (λ o. handed_over xs (line_of o)) os) A) (M.log_all os a)
unfolding M.log_all
rel_outs xs [] none_left n_none r = r
rel_outs xs (o ∷ os) (also f fs) (n_also n ns) r = rel_outs xs os fs ns (rel_out xs r o f n)

-- ---- the answers among the lines

answer_of : (xs : List Extension) (i : ℕ) (k : Result) (f : Frame) → AllowedFrame f → Names f i → (rest : List ℕ)
    → pick (eqb (kind_of (handed_over xs (line_of (answer i k f)))) 0x22) (answers (drop 2 (handed_over xs (line_of (answer i k f))))) [] ++ rest ≡ i ∷ rest
unfolding handed_over
answer_of xs i k (note j n m q b) al names rest = rw (names_answer j n m q b al)
answer_of xs i k (msg m) al h rest = elim h [ ]

sent_none : (xs : List Extension) (l : Line) → FineLine l → eqb (kind_of (handed_over xs (line_of (send l)))) 0x22 ≡ false
unfolding handed_over
sent_none xs (start t h) (starts r g) = refl
sent_none xs (reply b h) (replies g) = refl
sent_none xs (dat h) (dats g) = refl
sent_none xs fin fins = refl
sent_none xs (fin_ok b) fin_oks = refl
sent_none xs (cut n) cuts = refl
sent_none xs Rattle.book.specs.Book.lost h = elim h [ ]

give_none : (xs : List Extension) (t : Terms) (m : Msg) → eqb (kind_of (handed_over xs (line_of (give t m)))) 0x22 ≡ false
unfolding handed_over
give_none xs t (plain i j q b) = refl
give_none xs t (sure i j q b) = refl

pub rel_answers : (xs : List Extension) (os : List Out) → AllFine os → AllNamed os → answers_in (map (λ o. handed_over xs (line_of o)) os) ≡ M.answers os
unfolding M.answers handed_over
rel_answers xs [] none_left n_none = refl
rel_answers xs (give t m ∷ os) (also (gives al) fs) (n_also n ns) = rw (give_none xs t m) (rel_answers xs os fs ns)
rel_answers xs (answer i k f ∷ os) (also (tells al) fs) (n_also (n_answer n) ns) =
    answer_of xs i k f al n (answers_in (map (λ o. handed_over xs (line_of o)) os)) ∙ ap (λ l. i ∷ l) (rel_answers xs os fs ns)
rel_answers xs (ended ∷ os) (also ends fs) (n_also n ns) = rel_answers xs os fs ns
rel_answers xs (gone k ∷ os) (also gones fs) (n_also n ns) = rel_answers xs os fs ns
rel_answers xs (seen k ∷ os) (also seens fs) (n_also n ns) = rel_answers xs os fs ns
rel_answers xs (send l ∷ os) (also (sends g) fs) (n_also n ns) = rw (sent_none xs l g) (rel_answers xs os fs ns)
