-- What may last of one word after it becomes durable, is asked for, or is fenced.
use Rattle.std.proofs.Common.{◌⊎◌, ◌≡◌, ℕ, ◌+◌, ◌==◌, if◌then◌else◌, nat_lt, ◌<◌, ◌≤◌, Bool, true, false, arith, refl, sym, ap, ◌∙◌, inl, inr, Some, None}
use Rattle.std.proofs.lemmas.Grind.{common_steps}
use Rattle.std.specs.declared.option.Option.{Option}
use Rattle.bz_swap_machine.specs.Pending.{Saved, Pending, IsAlone, Lasts, IsLast, IsDurable, IsAsked, IsPast, with_saved, fenced_value, fenced_since, with_fence}

-- what may last, opened and closed
pub lasts-cases : {A : Type 0} (d : A) (p : Pending A) (x : A) → Lasts d p x → IsLast d p x
unfolding Lasts
lasts-cases d p x l = l

pub lasts-of : {A : Type 0} (d : A) (p : Pending A) (x : A) → IsLast d p x → Lasts d p x
unfolding Lasts
lasts-of d p x l = l

-- the durable value
pub lasts-durable : {A : Type 0} (d : A) (p : Pending A) → Lasts d p d
lasts-durable d p = lasts-of d p d (IsDurable refl)

-- one that an ask saved after it
pub lasts-by_ask : {A : Type 0} (d : A) (p : Pending A) (w : ℕ) (q : Saved A) → p.asked w ≡ Some q → p.since < q.moment → Lasts d p q.value
lasts-by_ask d p w q asked after = lasts-of d p q.value (IsAsked w q asked after refl)

-- a value becomes durable where a test holds, and then no other may last
copied : {A : Type 0} (b : Bool) (c d : A) (now : ℕ) (p : Pending A) (x : A) → IsPast now p → IsLast (if b then c else d) (record { since = if b then now else p.since; asked = p.asked }) x
    → ((b ≡ true) × (x ≡ c)) ⊎ ((b ≡ false) × Lasts d p x)
copied true c d now p x past (IsDurable is) = inl (refl, is)
copied true c d now p x past (IsAsked w q asked after is) = absurd (omega (arith, after, past.asked w q asked))
copied false c d now p x past l = inr (refl, lasts-of _ _ _ l)

pub lasts-copied : {A : Type 0} (b : Bool) (c d : A) (now : ℕ) (p : Pending A) (x : A) → IsPast now p → Lasts (if b then c else d) (record { since = if b then now else p.since; asked = p.asked }) x
    → ((b ≡ true) × (x ≡ c)) ⊎ ((b ≡ false) × Lasts d p x)
lasts-copied b c d now p x past l = copied b c d now p x past (lasts-cases _ _ _ l)

pub past-copied : {A : Type 0} (b : Bool) (now : ℕ) (p : Pending A) → IsPast now p → IsPast {A = A} now (record { since = if b then now else p.since; asked = p.asked })
past-copied true now p past = record { since = omega arith; asked = past.asked; one = past.one }
past-copied false now p past = past

some-moment : {A : Type 0} (q r : Saved A) → Some q ≡ Some r → q ≡ r
some-moment q r is = cc

-- the ask that a worker has after another's or its own
pub saved-cases : {A : Type 0} (b : Bool) (new : Saved A) (old : Option (Saved A)) (q : Saved A) → (if b then Some new else old) ≡ Some q → ((b ≡ true) × (new ≡ q)) ⊎ (old ≡ Some q)
saved-cases true new old q is = inl (refl, some-moment new q is)
saved-cases false new old q is = inr is

-- an ask adds the value that it saves
lasts-saved : {A : Type 0} (d : A) (p : Pending A) (w moment : ℕ) (c x : A) → IsLast d (with_saved p w moment c) x → (x ≡ c) ⊎ Lasts d p x
lasts-saved d p w moment c x (IsDurable is) = inr (lasts-of _ _ _ (IsDurable is))
lasts-saved d p w moment c x (IsAsked v q asked after is) = elim (saved-cases (v == w) (record { moment = moment; value = c }) (p.asked v) q asked) [
  | inl new ↦ inl (is ∙ ap (λ (r : Saved _). r.value) (sym new.1))
  | inr old ↦ inr (lasts-of _ _ _ (IsAsked v q old after is))
]

pub lasts-asked : {A : Type 0} (b : Bool) (d : A) (p : Pending A) (w moment : ℕ) (c x : A) → Lasts d (if b then with_saved p w moment c else p) x → (x ≡ c) ⊎ Lasts d p x
lasts-asked true d p w moment c x l = lasts-saved d p w moment c x (lasts-cases _ _ _ l)
lasts-asked false d p w moment c x l = inr l

too-late : {A : Type 0} (now : ℕ) (c : A) (q r : Saved A) → record { moment = now + 1; value = c } ≡ r → q.moment ≡ r.moment → q.moment ≤ now → ⊥
too-late now c q r is same past = let here : now + 1 ≡ r.moment = ap (λ (z : Saved _). z.moment) is in omega (arith, here, same, past)

past-saved : {A : Type 0} (p : Pending A) (w now : ℕ) (c : A) → IsPast now p → IsPast (now + 1) (with_saved p w (now + 1) c)
past-saved p w now c past = record {
  since = omega (arith, past.since);
  asked = λ v q asked. elim (saved-cases (v == w) (record { moment = now + 1; value = c }) (p.asked v) q asked) [
    | inl new ↦ rw (← new.1) (omega arith)
    | inr old ↦ omega (arith, past.asked v q old)
  ];
  one = λ u v q r asked asked' same. elim (saved-cases (u == w) (record { moment = now + 1; value = c }) (p.asked u) q asked) [
    | inl new ↦ elim (saved-cases (v == w) (record { moment = now + 1; value = c }) (p.asked v) r asked') [
      | inl new' ↦ ap (λ (z : Saved _). z.value) (sym new.1 ∙ new'.1)
      | inr old ↦ absurd (too-late now c r q new.1 (sym same) (past.asked v r old))
    ]
    | inr old ↦ elim (saved-cases (v == w) (record { moment = now + 1; value = c }) (p.asked v) r asked') [
      | inl new ↦ absurd (too-late now c q r new.1 same (past.asked u q old))
      | inr old' ↦ past.one u v q r old old' same
    ]
  ];
}

past-later : {A : Type 0} (p : Pending A) (now : ℕ) → IsPast now p → IsPast (now + 1) p
past-later p now past = record { since = omega (arith, past.since); asked = λ v q asked. omega (arith, past.asked v q asked); one = past.one }

pub past-asked : {A : Type 0} (b : Bool) (p : Pending A) (w now : ℕ) (c : A) → IsPast now p → IsPast (now + 1) (if b then with_saved p w (now + 1) c else p)
past-asked true p w now c past = past-saved p w now c past
past-asked false p w now c past = past-later p now past

-- a worker that has fenced has no ask, and another one's is as it was
pub left-fenced : {A : Type 0} (b : Bool) (old : Option (Saved A)) (q : Saved A) → (if b then None else old) ≡ Some q → old ≡ Some q
left-fenced true old q is = absurd (cc)
left-fenced false old q is = is

since-if : (since moment : ℕ) (b : Bool) → (nat_lt since moment) ≡ b → since ≤ (if b then moment else since)
since-if since moment true is = grind (arith, common_steps, is)
since-if since moment false is = omega arith

-- a fence takes no moment back
pub since-fenced : {A : Type 0} (since : ℕ) (o : Option (Saved A)) → since ≤ fenced_since since o
since-fenced since None = omega arith
since-fenced since (Some q) = since-if since q.moment (nat_lt since q.moment) refl

value-if : {A : Type 0} (d : A) (p : Pending A) (w : ℕ) (q : Saved A) (x : A) (b : Bool) → (nat_lt p.since q.moment) ≡ b → p.asked w ≡ Some q → x ≡ (if b then q.value else d) → Lasts d p x
value-if d p w q x true told asked is = lasts-of _ _ _ (IsAsked w q asked (grind (arith, common_steps, told)) is)
value-if d p w q x false told asked is = lasts-of _ _ _ (IsDurable is)

value-fenced : {A : Type 0} (d : A) (p : Pending A) (w : ℕ) (x : A) (o : Option (Saved A)) → p.asked w ≡ o → x ≡ fenced_value d p.since o → Lasts d p x
value-fenced d p w x None asked is = lasts-of _ _ _ (IsDurable is)
value-fenced d p w x (Some q) asked is = value-if d p w q x (nat_lt p.since q.moment) refl asked is

-- what may last after a fence might last before it
fenced-last : {A : Type 0} (d : A) (p : Pending A) (w : ℕ) (x : A) → IsLast (fenced_value d p.since (p.asked w)) (with_fence p w) x → Lasts d p x
fenced-last d p w x (IsDurable is) = value-fenced d p w x (p.asked w) refl is
fenced-last d p w x (IsAsked v q asked after is) = lasts-of _ _ _ (IsAsked v q (left-fenced (v == w) (p.asked v) q asked) (omega (arith, after, since-fenced p.since (p.asked w))) is)

pub lasts-fenced : {A : Type 0} (d : A) (p : Pending A) (w : ℕ) (x : A) → Lasts (fenced_value d p.since (p.asked w)) (with_fence p w) x → Lasts d p x
lasts-fenced d p w x l = fenced-last d p w x (lasts-cases _ _ _ l)

moment-if : (since moment now : ℕ) (b : Bool) → since ≤ now → moment ≤ now → (if b then moment else since) ≤ now
moment-if since moment now true s t = t
moment-if since moment now false s t = s

moment-fenced : {A : Type 0} (p : Pending A) (w now : ℕ) (o : Option (Saved A)) → IsPast now p → p.asked w ≡ o → fenced_since p.since o ≤ now
moment-fenced p w now None past asked = past.since
moment-fenced p w now (Some q) past asked = moment-if p.since q.moment now (nat_lt p.since q.moment) past.since (past.asked w q asked)

pub past-fenced : {A : Type 0} (p : Pending A) (w now : ℕ) → IsPast now p → IsPast now (with_fence p w)
past-fenced p w now past = record {
  since = moment-fenced p w now (p.asked w) past refl;
  asked = λ v q asked. past.asked v q (left-fenced (v == w) (p.asked v) q asked);
  one = λ u v q r asked asked' same. past.one u v q r (left-fenced (u == w) (p.asked u) q asked) (left-fenced (v == w) (p.asked v) r asked') same;
}

-- where nobody has asked the durable value alone may last
pub never-asked : {A : Type 0} (o : Option (Saved A)) (q : Saved A) → o ≡ None → o ≡ Some q → ⊥
never-asked o q none some = let bad : None ≡ Some q = sym none ∙ some in cc

alone : {A : Type 0} (now : ℕ) (d x : A) (p : Pending A) → IsAlone now p → IsLast d p x → x ≡ d
alone now d x p only (IsDurable is) = is
alone now d x p only (IsAsked w q asked after is) = absurd (never-asked (p.asked w) q (only.none w) asked)

pub lasts-alone : {A : Type 0} (now : ℕ) (d x : A) (p : Pending A) → IsAlone now p → Lasts d p x → x ≡ d
lasts-alone now d x p only l = alone now d x p only (lasts-cases _ _ _ l)

pub past-alone : {A : Type 0} (now : ℕ) (p : Pending A) → IsAlone now p → IsPast now p
past-alone now p only = record {
  since = only.since;
  asked = λ w q asked. absurd (never-asked (p.asked w) q (only.none w) asked);
  one = λ v w q r asked asked' same. absurd (never-asked (p.asked v) q (only.none v) asked);
}
