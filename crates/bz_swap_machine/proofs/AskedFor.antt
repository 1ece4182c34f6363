-- What a worker's own fence would leave, after an act, an ask or a fence of another one: each value that may last then is the
-- cached one, or might last after that fence before.
use Rattle.std.proofs.Common.{◌⊎◌, ◌≡◌, ℕ, ◌+◌, ◌==◌, if◌then◌else◌, nat_lt, ◌<◌, ◌≤◌, Bool, true, false, arith, refl, sym, ap, subst, ◌∙◌, inl, inr, Some, None}
use Rattle.std.proofs.lemmas.Grind.{common_steps}
use Rattle.std.proofs.lemmas.Bool.{cases_lt}
use Rattle.std.specs.declared.option.Option.{Option}
use Rattle.bz_swap_machine.specs.Pending.{Saved, Pending, Lasts, IsLast, IsDurable, IsAsked, IsPast, with_saved, fenced_value, fenced_since, with_fence}
use Rattle.bz_swap_machine.proofs.Lasting.{lasts-cases, lasts-of, lasts-copied, lasts-fenced, saved-cases, left-fenced, since-fenced}

-- what may last after a worker's fence
abbrev pub LastsFenced : {A : Type 0} → A → Pending A → ℕ → A → Type 0
LastsFenced d p v x = Lasts (fenced_value d p.since (p.asked v)) (with_fence p v) x

-- a value that became durable is later than all asks
pub for-copied : {A : Type 0} (b : Bool) (c d : A) (now : ℕ) (p : Pending A) (v : ℕ) (x : A) → IsPast now p
    → LastsFenced (if b then c else d) (record { since = if b then now else p.since; asked = p.asked }) v x → ((b ≡ true) × (x ≡ c)) ⊎ LastsFenced d p v x
for-copied true c d now p v x past l = elim (lasts-copied true c d now p x past (lasts-fenced c (record { since = now; asked = p.asked }) v x l)) [
  | inl copied ↦ inl copied
  | inr was ↦ absurd (grind (arith, was.0))
]
for-copied false c d now p v x past l = inr l

-- the ask that is left after a fence is another worker's
not-own : {A : Type 0} (b : Bool) (o : Option (Saved A)) (q : Saved A) → (if b then None else o) ≡ Some q → b ≡ false
not-own true o q is = absurd (cc)
not-own false o q is = refl

other-if : {A : Type 0} (b : Bool) (o : Option (Saved A)) (q : Saved A) → b ≡ false → o ≡ Some q → (if b then None else o) ≡ Some q
other-if b o q told is = rw (told, is) refl

if-false : {A : Type 0} (b : Bool) (x y : A) → b ≡ false → (if b then x else y) ≡ y
if-false b x y told = rw told refl

asked-saved : {A : Type 0} (d : A) (p : Pending A) (u v t : ℕ) (c x : A) → (v == u) ≡ false → IsLast (fenced_value d p.since (if v == u then Some (record { moment = t; value = c }) else p.asked v)) (with_fence (with_saved p u t c) v) x → (x ≡ c) ⊎ LastsFenced d p v x
asked-saved d p u v t c x other (IsDurable is) = inr (lasts-of _ _ _ (IsDurable (is ∙ ap (fenced_value d p.since) (if-false (v == u) (Some (record { moment = t; value = c })) (p.asked v) other))))
asked-saved d p u v t c x other (IsAsked y q asked after is) =
    elim (saved-cases (y == u) (record { moment = t; value = c }) (p.asked y) q (left-fenced (y == v) ((with_saved p u t c).asked y) q asked)) [
      | inl new ↦ inl (is ∙ ap (λ (r : Saved _). r.value) (sym new.1))
      | inr old ↦ inr (lasts-of _ _ _ (IsAsked y q (other-if (y == v) (p.asked y) q (not-own (y == v) ((with_saved p u t c).asked y) q asked) old)
          (subst (λ o. fenced_since p.since o < q.moment) (if-false (v == u) (Some (record { moment = t; value = c })) (p.asked v) other) after) is))
    ]

-- another worker's ask adds the value that it saves
pub for-asked : {A : Type 0} (b : Bool) (d : A) (p : Pending A) (u v t : ℕ) (c x : A) → (v == u) ≡ false → LastsFenced d (if b then with_saved p u t c else p) v x → (x ≡ c) ⊎ LastsFenced d p v x
for-asked true d p u v t c x other l = asked-saved d p u v t c x other (lasts-cases _ _ _ l)
for-asked false d p u v t c x other l = inr l

-- after a worker's own ask its fence will leave the value that it saved, and no other may last then
own-saved : {A : Type 0} (d : A) (p : Pending A) (w now : ℕ) (c x : A) (o : Option (Saved A)) → o ≡ Some (record { moment = now + 1; value = c }) → IsPast now p
    → IsLast (fenced_value d p.since o) (record { since = fenced_since p.since o; asked = λ v. if v == w then None else (with_saved p w (now + 1) c).asked v }) x → x ≡ c
own-saved d p w now c x o own past (IsDurable is) =
    let after : nat_lt p.since (now + 1) ≡ true = grind (arith, common_steps, past.since) in
    is ∙ rw (own, after) refl
own-saved d p w now c x o own past (IsAsked v q asked later is) =
    let other : (v == w) ≡ false = not-own (v == w) ((with_saved p w (now + 1) c).asked v) q asked in
    let after : nat_lt p.since (now + 1) ≡ true = grind (arith, common_steps, past.since) in
    let made : now + 1 < q.moment = subst (λ t. t < q.moment) (rw (own, after) refl) later in
    elim (saved-cases (v == w) (record { moment = now + 1; value = c }) (p.asked v) q (left-fenced (v == w) ((with_saved p w (now + 1) c).asked v) q asked)) [
      | inl new ↦ absurd (grind (arith, new.0, other))
      | inr old ↦ absurd (omega (arith, made, past.asked v q old))
    ]

own-if : {A : Type 0} (b : Bool) (x y : A) → b ≡ true → (if b then x else y) ≡ x
own-if b x y told = rw told refl

pub own-asked : {A : Type 0} (b : Bool) (d : A) (p : Pending A) (w now : ℕ) (c x : A) → IsPast now p → LastsFenced d (if b then with_saved p w (now + 1) c else p) w x
    → ((b ≡ true) × (x ≡ c)) ⊎ ((b ≡ false) × LastsFenced d p w x)
own-asked true d p w now c x past l =
    let self : (w == w) ≡ true = grind (arith, common_steps) in
    inl (refl, own-saved d p w now c x (if w == w then Some (record { moment = now + 1; value = c }) else p.asked w) (own-if (w == w) (Some (record { moment = now + 1; value = c })) (p.asked w) self) past (lasts-cases _ _ _ l))
own-asked false d p w now c x past l = inr (refl, l)

-- a fence leaves later moments, from a later moment on
rising-if : (s s' moment : ℕ) (b b' : Bool) → s ≤ s' → nat_lt s moment ≡ b → nat_lt s' moment ≡ b' → (if b then moment else s) ≤ (if b' then moment else s')
rising-if s s' moment true true le told told' = omega arith
rising-if s s' moment true false le told told' = grind (arith, common_steps, told')
rising-if s s' moment false true le told told' = grind (arith, common_steps, told')
rising-if s s' moment false false le told told' = le

since-rising : {A : Type 0} (s s' : ℕ) (o : Option (Saved A)) → s ≤ s' → fenced_since s o ≤ fenced_since s' o
since-rising s s' None le = le
since-rising s s' (Some q) le = rising-if s s' q.moment (nat_lt s q.moment) (nat_lt s' q.moment) le refl refl

module _ {A : Type 0} (d : A) (p : Pending A) (now u v : ℕ) (past : IsPast now p) (other : (u == v) ≡ false) where
  -- the other worker's value lasts, if it is later than this one's
  late : (x : A) (r : Saved A) → p.asked u ≡ Some r → fenced_since p.since (p.asked v) < r.moment → x ≡ r.value → LastsFenced d p v x
  late x r asked after is = lasts-of _ _ _ (IsAsked u r (other-if (u == v) (p.asked u) r other asked) after is)

  own : (x : A) → x ≡ fenced_value d p.since (p.asked v) → LastsFenced d p v x
  own x is = lasts-of _ _ _ (IsDurable is)

  -- this worker has not asked
  none-asked : (x : A) (o : Option (Saved A)) → p.asked u ≡ o → p.asked v ≡ None → x ≡ fenced_value d p.since o → LastsFenced d p v x
  none-asked x None asked mine is = own x (is ∙ sym (ap (fenced_value d p.since) mine))
  none-asked x (Some r) asked mine is = by-test (nat_lt p.since r.moment) refl is
    where
      by-test : (b : Bool) → nat_lt p.since r.moment ≡ b → x ≡ (if b then r.value else d) → LastsFenced d p v x
      by-test true told is = late x r asked (subst (λ o. fenced_since p.since o < r.moment) (sym mine) (grind (arith, common_steps, told))) is
      by-test false told is = own x (is ∙ sym (ap (fenced_value d p.since) mine))

  -- this worker has, and the other one's value is no earlier
  both-asked : (x : A) (q r : Saved A) (b : Bool) → p.asked u ≡ Some r → p.asked v ≡ Some q → nat_lt p.since q.moment ≡ b → p.since < r.moment → q.moment ≤ r.moment → x ≡ r.value → LastsFenced d p v x
  both-asked x q r true theirs mine told after le is = elim (cases_lt q.moment r.moment) [
    | inl before ↦ late x r theirs (rw (mine, told) before) is
    | inr same ↦ own x (is ∙ past.one u v r q theirs mine (omega (arith, le, same)) ∙ sym (rw (mine, told) refl))
  ]
  both-asked x q r false theirs mine told after le is = late x r theirs (rw (mine, told) after) is

  -- what is durable after the other worker's fence and then this one's, by what each asked for
  settled-both : (x : A) (q : Saved A) (o : Option (Saved A)) (b : Bool) → p.asked u ≡ o → p.asked v ≡ Some q → nat_lt (fenced_since p.since o) q.moment ≡ b → x ≡ (if b then q.value else fenced_value d p.since o) → LastsFenced d p v x
  settled-both x q o true theirs mine told is =
      let before : nat_lt p.since q.moment ≡ true = less p.since (fenced_since p.since o) q.moment (since-fenced p.since o) told in
      own x (is ∙ sym (rw (mine, before) refl))
    where
      less : (s s' t : ℕ) → s ≤ s' → nat_lt s' t ≡ true → nat_lt s t ≡ true
      less s s' t le told = grind (arith, common_steps, le, told)
  settled-both x q None false theirs mine told is = own x (is ∙ sym (rw (mine, told) refl))
  settled-both x q (Some r) false theirs mine told is = by-test (nat_lt p.since r.moment) refl told is
    where
      by-test : (b : Bool) → nat_lt p.since r.moment ≡ b → nat_lt (if b then r.moment else p.since) q.moment ≡ false → x ≡ (if b then r.value else d) → LastsFenced d p v x
      by-test true after told is = both-asked x q r (nat_lt p.since q.moment) theirs mine refl (grind (arith, common_steps, after)) (grind (arith, common_steps, told)) is
      by-test false after told is = own x (is ∙ sym (rw (mine, told) refl))

  settled : (x : A) (o o' : Option (Saved A)) → p.asked u ≡ o → p.asked v ≡ o' → x ≡ fenced_value (fenced_value d p.since o) (fenced_since p.since o) o' → LastsFenced d p v x
  settled x o None theirs mine is = none-asked x o theirs mine is
  settled x o (Some q) theirs mine is = settled-both x q o (nat_lt (fenced_since p.since o) q.moment) theirs mine refl is

  fenced-asked : (x : A) → (v == u) ≡ false → IsLast (fenced_value (fenced_value d p.since (p.asked u)) (fenced_since p.since (p.asked u)) (if v == u then None else p.asked v)) (with_fence (with_fence p u) v) x → LastsFenced d p v x
  fenced-asked x apart (IsDurable is) =
      settled x (p.asked u) (p.asked v) refl refl (is ∙ ap (fenced_value (fenced_value d p.since (p.asked u)) (fenced_since p.since (p.asked u))) (if-false (v == u) None (p.asked v) apart))
  fenced-asked x apart (IsAsked y q asked after is) =
      let old : p.asked y ≡ Some q = left-fenced (y == u) (p.asked y) q (left-fenced (y == v) (if y == u then None else p.asked y) q asked) in
      let later : fenced_since (fenced_since p.since (p.asked u)) (p.asked v) < q.moment = subst (λ o. fenced_since (fenced_since p.since (p.asked u)) o < q.moment) (if-false (v == u) None (p.asked v) apart) after in
      lasts-of _ _ _ (IsAsked y q (other-if (y == v) (p.asked y) q (not-own (y == v) (if y == u then None else p.asked y) q asked) old)
      (omega (arith, later, since-rising p.since (fenced_since p.since (p.asked u)) (p.asked v) (since-fenced p.since (p.asked u)))) is)

  -- what may last after another worker's fence and then this one's might last after this one's alone
  pub for-fenced : (x : A) → (v == u) ≡ false → LastsFenced (fenced_value d p.since (p.asked u)) (with_fence p u) v x → LastsFenced d p v x
  for-fenced x apart l = fenced-asked x apart (lasts-cases _ _ _ l)
