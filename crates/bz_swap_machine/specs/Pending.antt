-- Asks that are not fenced, of one word: how old its durable value is, and what each worker's fence would make of it.
use Rattle.std.specs.Prelude.{◌≡◌, if◌then◌else◌, ℕ, ◌<◌, ◌≤◌, ◌==◌, nat_lt, Some, None}
use Rattle.std.specs.declared.option.Option.{Option}

-- an ask: which one it was, counted from 1 since power on, and the value that it saved
pub record Saved (A : Type 0) : Type 0 where
  pub moment : ℕ
  pub value : A

-- how many asks had been made when the durable value was the cached one, and what each worker asked for since its last fence
pub record Pending (A : Type 0) : Type 0 where
  pub since : ℕ
  pub asked : ℕ → Option (Saved A)

-- nobody has asked
abbrev pub no_asks : {A : Type 0} → Pending A
no_asks = record { since = 0; asked = λ w. None }

-- nobody has asked, and the durable value dates from no later than now
pub record IsAlone {A : Type 0} (now : ℕ) (p : Pending A) : Type 0 where
  pub since : p.since ≤ now
  pub none : (w : ℕ) → p.asked w ≡ None

-- a value that can be the durable one with no further act but fences: the durable one, or one that an ask saved after it
pub data IsLast {A : Type 0} (durable : A) (p : Pending A) (x : A) : Type 0 where
  IsDurable : x ≡ durable → IsLast durable p x
  IsAsked : (w : ℕ) (q : Saved A) → p.asked w ≡ Some q → p.since < q.moment → x ≡ q.value → IsLast durable p x

-- under a name that tactics take as it is
unfoldable pub Lasts : {A : Type 0} → A → Pending A → A → Type 0
Lasts durable p x = IsLast durable p x

-- no ask is later than now, and no durable value dates from later; what two workers saved with one ask is one value
pub record IsPast {A : Type 0} (now : ℕ) (p : Pending A) : Type 0 where
  pub since : p.since ≤ now
  pub asked : (w : ℕ) (q : Saved A) → p.asked w ≡ Some q → q.moment ≤ now
  pub one : (v w : ℕ) (q r : Saved A) → p.asked v ≡ Some q → p.asked w ≡ Some r → q.moment ≡ r.moment → q.value ≡ r.value

-- worker w asks at this moment, and saves this value
abbrev pub with_saved : {A : Type 0} → Pending A → ℕ → ℕ → A → Pending A
with_saved p w moment x = record { since = p.since; asked = λ v. if v == w then Some (record { moment = moment; value = x }) else p.asked v }

-- the durable value after a fence: the saved one, where the ask is later than the moment from which the durable one dates
abbrev pub fenced_value : {A : Type 0} → A → ℕ → Option (Saved A) → A
fenced_value durable since None = durable
fenced_value durable since (Some q) = if nat_lt since q.moment then q.value else durable

-- the moment from which it dates then
abbrev pub fenced_since : {A : Type 0} → ℕ → Option (Saved A) → ℕ
fenced_since since None = since
fenced_since since (Some q) = if nat_lt since q.moment then q.moment else since

-- worker w has fenced
abbrev pub with_fence : {A : Type 0} → Pending A → ℕ → Pending A
with_fence p w = record { since = fenced_since p.since (p.asked w); asked = λ v. if v == w then None else p.asked v }
