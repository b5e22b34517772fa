-- ONE DIRECTION OF A DIALOGUE, as lists: what one end handed over, what the other's user was given, the successes told to the first, what it still
-- waits for, the frames on the way (`q`) and on the way back (`back`), and the identifiers given to the second user that its unit did not
-- acknowledge (`un`). Closed by the laws of `++`.
use Rattle.std.specs.Prelude.{Option}
use mathlib.Core.Path.{◌≡◌, refl, sym, ◌∙◌, ap}
use mathlib.Core.List.{List, [], ◌∷◌, ◌++◌, append_assoc, append-nil}
use Prim.Native.Nat.{ℕ}
use Rattle.book.specs.Book.{Body, Msg, plain, sure, ids_of}
use Rattle.pair_laws.specs.Statement.{ids, Prefix}
use Rattle.pair_laws.proofs.Facts.{Sent, mes, confirm, msgs, acks, msgs-append, acks-append, ids-append}

-- Both ends are in the dialogue.
pub record Flow (handed given : List Msg) (okays wait : List ℕ) (q back : List Sent) (un : List ℕ) : Type 0 where
  pub moved : handed ≡ given ++ msgs q
  pub seen : ids given ≡ okays ++ (acks back ++ un)
  pub owed : wait ≡ acks back ++ (un ++ ids (msgs q))

-- The first end has left in order: nobody waits, the frames still come.
pub record Rest (handed given : List Msg) (okays : List ℕ) (q : List Sent) : Type 0 where
  pub moved : handed ≡ given ++ msgs q
  pub told : Prefix okays (ids given)

-- The dialogue is over, or cut.
pub record Past (handed given : List Msg) (okays : List ℕ) : Type 0 where
  pub first : Prefix given handed
  pub told : Prefix okays (ids given)

pub past_of : {h g : List Msg} {o w : List ℕ} {q back : List Sent} {un : List ℕ} → Flow h g o w q back un → Past h g o
past_of {q} {back} {un} f = record { first = (msgs q, sym f.moved); told = (acks back ++ un, sym f.seen) }

pub rest_of : {h g : List Msg} {o w : List ℕ} {q back : List Sent} {un : List ℕ} → Flow h g o w q back un → Rest h g o q
rest_of {q} {back} {un} f = record { moved = f.moved; told = (acks back ++ un, sym f.seen) }

pub past_of_rest : {h g : List Msg} {o : List ℕ} {q : List Sent} → Rest h g o q → Past h g o
past_of_rest {q} r = record { first = (msgs q, sym r.moved); told = r.told }

-- The first end hands over one more.
pub past_more : {h g : List Msg} {o : List ℕ} (m : Msg) → Past h g o → Past (h ++ (m ∷ [])) g o
past_more {g} m p = record { first = (p.first.0 ++ (m ∷ []), rw (← (append_assoc g p.first.0 (m ∷ [])), p.first.1)); told = p.told }

pub flow_more : {h g : List Msg} {o w : List ℕ} {q back : List Sent} {un : List ℕ} (m : Msg) (x : ℕ) →
    Flow h g o w q back un → Flow (h ++ (m ∷ [])) g o (w ++ ids_of m) (q ++ (mes m x ∷ [])) back un
unfolding msgs ids
flow_more {g} {q} {back} {un} m x f = record {
  moved = rw (msgs-append, ← append_assoc, ← f.moved);
  seen = f.seen;
  owed = ap (λ v. v ++ ids_of m) f.owed ∙ simp (msgs-append, ids-append, append_assoc, append-nil);
}

-- The second end is given a message and acknowledges it, or does not.
pub flow_plain : {h g : List Msg} {o w : List ℕ} {q back : List Sent} {un : List ℕ} (n nr : Option ℕ) (nq : Option (List ℕ)) (b : Body) (x : ℕ) →
    Flow h g o w (mes (plain n nr nq b) x ∷ q) back un → Flow h (g ++ (plain n nr nq b ∷ [])) o w q back un
unfolding msgs ids ids_of
flow_plain {g} {q} n nr nq b x f = record {
  moved = f.moved ∙ sym (append_assoc g (plain n nr nq b ∷ []) (msgs q));
  seen = ids-append g _ ∙ append-nil _ ∙ f.seen;
  owed = f.owed;
}

pub flow_acked : {h g : List Msg} {o w : List ℕ} {q back : List Sent} (i : ℕ) (ir : Option ℕ) (iq : Option (List ℕ)) (b : Body) (x : ℕ)
    (y : List ℕ × Body × ℕ) →
    Flow h g o w (mes (sure i ir iq b) x ∷ q) back [] → Flow h (g ++ (sure i ir iq b ∷ [])) o w q (back ++ (confirm i y ∷ [])) []
unfolding msgs ids ids_of acks
flow_acked {g} {o} {q} {back} i ir iq b x y f = record {
  moved = f.moved ∙ sym (append_assoc g (sure i ir iq b ∷ []) (msgs q));
  seen = ids-append g _ ∙ ap (λ v. v ++ (i ∷ [])) f.seen ∙ simp (acks-append, append_assoc, append-nil);
  owed = f.owed ∙ simp (acks-append, append_assoc);
}

pub flow_unacked : {h g : List Msg} {o w : List ℕ} {q back : List Sent} {un : List ℕ} (m : Msg) (x : ℕ) →
    Flow h g o w (mes m x ∷ q) back un → Flow h (g ++ (m ∷ [])) o w q back (un ++ ids_of m)
unfolding msgs ids
flow_unacked {g} {o} {q} {back} {un} m x f = record {
  moved = f.moved ∙ sym (append_assoc g (m ∷ []) (msgs q));
  seen = ids-append g _ ∙ ap (λ v. v ++ (ids_of m ++ [])) f.seen ∙ simp (append_assoc, append-nil);
  owed = f.owed ∙ simp append_assoc;
}

-- The first end is told.
pub flow_told : {h g : List Msg} {o w : List ℕ} {q back : List Sent} {un : List ℕ} (r : ℕ) (x : List ℕ × Body × ℕ) →
    Flow h g o w q (confirm r x ∷ back) un → Flow h g (o ++ (r ∷ [])) (acks back ++ (un ++ ids (msgs q))) q back un
unfolding acks
flow_told {o} {back} {un} r x f = record {
  moved = f.moved;
  seen = f.seen ∙ sym (append_assoc o (r ∷ []) (acks back ++ un));
  owed = refl;
}

-- Frames of the other flow.
pub flow_past_ack : {h g : List Msg} {o w : List ℕ} {q back : List Sent} {un : List ℕ} (r : ℕ) (x : List ℕ × Body × ℕ) →
    Flow h g o w (confirm r x ∷ q) back un → Flow h g o w q back un
unfolding msgs
flow_past_ack r x f = record { moved = f.moved; seen = f.seen; owed = f.owed }

pub flow_past_msg : {h g : List Msg} {o w : List ℕ} {q back : List Sent} {un : List ℕ} (m : Msg) (x : ℕ) →
    Flow h g o w q (mes m x ∷ back) un → Flow h g o w q back un
unfolding acks
flow_past_msg m x f = record { moved = f.moved; seen = f.seen; owed = f.owed }

pub flow_add_ack : {h g : List Msg} {o w : List ℕ} {q back : List Sent} {un : List ℕ} (r : ℕ) (x : List ℕ × Body × ℕ) →
    Flow h g o w q back un → Flow h g o w (q ++ (confirm r x ∷ [])) back un
unfolding msgs
flow_add_ack {q} r x f =
    let e : msgs (q ++ (confirm r x ∷ [])) ≡ msgs q = simp (msgs-append, append-nil) in
    record { moved = rw e f.moved; seen = f.seen; owed = rw e f.owed }

pub flow_add_msg : {h g : List Msg} {o w : List ℕ} {q back : List Sent} {un : List ℕ} (m : Msg) (x : ℕ) →
    Flow h g o w q back un → Flow h g o w q (back ++ (mes m x ∷ [])) un
unfolding acks
flow_add_msg {back} m x f =
    let e : acks (back ++ (mes m x ∷ [])) ≡ acks back = simp (acks-append, append-nil) in
    record { moved = f.moved; seen = rw e f.seen; owed = rw e f.owed }

-- The second end is given what the first, which has left, sent.
pub rest_given : {h g : List Msg} {o : List ℕ} {q : List Sent} (m : Msg) (x : ℕ) → Rest h g o (mes m x ∷ q) → Rest h (g ++ (m ∷ [])) o q
unfolding msgs ids
rest_given {g} {o} {q} m x r = record {
  moved = r.moved ∙ sym (append_assoc g (m ∷ []) (msgs q));
  told = (
    r.told.0 ++ (ids_of m ++ []),
    sym (append_assoc o r.told.0 (ids_of m ++ [])) ∙ ap (λ v. v ++ (ids_of m ++ [])) r.told.1 ∙ sym
        (ids-append g (m ∷ [])),
  );
}

pub rest_past_ack : {h g : List Msg} {o : List ℕ} {q : List Sent} (r : ℕ) (x : List ℕ × Body × ℕ) → Rest h g o (confirm r x ∷ q) → Rest h g o q
unfolding msgs
rest_past_ack i x r = record { moved = r.moved; told = r.told }
