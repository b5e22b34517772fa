-- The unit's struct as the picture of a state of the rule book, and back. "A field that the state doesn't use is 0 or empty."
use Rattle.std.specs.Prelude.{ℕ, zero, suc, ◌-◌, List, [], ◌++◌, true, length, take, replicate, None}
use Rattle.book.specs.declared.Terms.{Terms}
use Rattle.book.specs.declared.Unit.{Unit as Value}
use Rattle.book.specs.Book.{Msg, plain, msg, note, Reading, bad, good, State, idle, single, multi, ending, assoc, Setup, ids_of}
use Rattle.book.specs.View.{reading_in, msg_octets}

-- in an array of n places, the unused ones 0
unfoldable pub padded : ℕ → List ℕ → List ℕ
padded n s = s ++ replicate (n - length s) 0

abbrev pub no_terms : Terms
no_terms = record { class = 0; priority = 0; rer = 0 }

-- a unit in state k: its terms, the identifiers that wait, the kept frame's octets, the elapsed ticks
abbrev pub pictured : Setup → (k : ℕ) → Terms → (waiting kept : List ℕ) → (elapsed : ℕ) → Value
pictured s k a w f t = record {
  name = padded 32 s.name;
  waiting = padded 8 w;
  kept = padded 554 f;
  state = k;
  start = s.start_limit;
  end = s.end_limit;
  inactivity = s.inactivity_limit;
  elapsed = t;
  terms = a;
  letters = length s.name;
  count = length w;
  octets = length f;
}

abbrev pub picture : Setup → State → Value
picture s idle = pictured s 0 no_terms [] [] 0
picture s (single a w t) = pictured s 1 a w [] t
picture s (multi a k t) = pictured s 2 a (ids_of k) (msg_octets k) t
picture s (ending a w t) = pictured s 3 a w [] t
picture s (assoc a w t) = pictured s 4 a w [] t

-- ---- and back

abbrev pub setup_of : Value → Setup
setup_of u = record { name = take u.letters u.name; start_limit = u.start; end_limit = u.end; inactivity_limit = u.inactivity }

-- the identifiers that wait
abbrev pub ids_in : Value → List ℕ
ids_in u = take u.count u.waiting

-- the message of a frame; of what is none, any (a sound unit keeps none such)
abbrev pub no_msg : Msg
no_msg = plain None None None (record { maintained = true; type = None; user_data = None })

abbrev pub msg_in : Reading → Msg
msg_in (good (msg m) n) = m
msg_in (good (note k r i q b) n) = no_msg
msg_in (bad n) = no_msg

abbrev pub kept_of : Value → Msg
kept_of u = msg_in (reading_in (take u.octets u.kept))

abbrev pub state_at : ℕ → Value → State
state_at zero u = idle
state_at (suc zero) u = single u.terms (ids_in u) u.elapsed
state_at (suc (suc zero)) u = multi u.terms (kept_of u) u.elapsed
state_at (suc (suc (suc zero))) u = ending u.terms (ids_in u) u.elapsed
state_at (suc (suc (suc (suc n)))) u = assoc u.terms (ids_in u) u.elapsed

unfoldable pub state_of : Value → State
state_of u = state_at u.state u
