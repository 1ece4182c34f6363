-- What the readers say of what is kept of asks, where it dates from now for some words, was asked for, or was fenced.
use Rattle.std.specs.Prelude.{◌≡◌, if◌then◌else◌, ◌==◌, ℕ, ◌<◌, ◌≤◌, Bool, true, false, nat_lt, Some, None}
use Rattle.std.specs.declared.option.Option.{Option}
use Rattle.std.proofs.Common.{arith, refl, ap, ◌∙◌}
use Rattle.std.proofs.lemmas.Grind.{common_steps}
use Rattle.bz_word.specs.Kinds.{kind}
use Rattle.bz_word.specs.declared.kind.WordKind.TheVariants.{Value}
use Rattle.bz_layout.specs.Addresses.{swap_address}
use Rattle.bz_swap_machine.specs.declared.status.SwapStatus.TheVariants.{Free}
use Rattle.bz_swap_machine.specs.Pending.{Saved, Pending, no_asks, with_saved, fenced_value, fenced_since, with_fence}
use Rattle.bz_swap_cells.specs.Store.{is_outside, status_of, field_address, field_count, saved_as, pending_as, kind_pending, status_pending, field_pending}
use Rattle.bz_swap_cells.proofs.Readers.{kind_in, status_in, field_in}

-- some words date from now, and what was asked for stays
abbrev pub AreDated : (ℕ → Bool) → ℕ → (ℕ → Pending ℕ) → (ℕ → Pending ℕ) → Type 0
AreDated p now old new = (b : ℕ) → new b ≡ record { since = if p b then now else (old b).since; asked = (old b).asked }

-- some words are asked for by worker w, as they are in the caches
abbrev pub AreSaved : (ℕ → Bool) → ℕ → ℕ → (ℕ → ℕ) → (ℕ → Pending ℕ) → (ℕ → Pending ℕ) → Type 0
AreSaved p w moment words old new = (b : ℕ) → new b ≡ (if p b then with_saved (old b) w moment (words b) else old b)

-- worker w fences
abbrev pub AreFenced : ℕ → (ℕ → Pending ℕ) → (ℕ → Pending ℕ) → Type 0
AreFenced w old new = (b : ℕ) → new b ≡ with_fence (old b) w

dated-if : {A : Type 0} (f : ℕ → A) (t : Bool) (now : ℕ) (p : Pending ℕ) → t ≡ false → pending_as f (record { since = if t then now else p.since; asked = p.asked }) ≡ pending_as f p
dated-if f t now p told = rw told refl

field-if : (t : Bool) (now : ℕ) (p : Pending ℕ) → t ≡ false → record { since = if t then now else p.since; asked = p.asked } ≡ p
field-if t now p told = rw told refl

module _ (swaps : ℕ) (p : ℕ → Bool) (now : ℕ) (old new : ℕ → Pending ℕ) (h : AreDated p now old new) where
  pub kind-dated : (c : ℕ) → (is_outside swaps c ≡ false → p c ≡ false) → kind_pending swaps new c ≡ record { since = if p c then now else (kind_pending swaps old c).since; asked = (kind_pending swaps old c).asked }
  kind-dated c none = by_test (is_outside swaps c) none
    where
      by_test : (o : Bool) → (o ≡ false → p c ≡ false)
          → (if o then pending_as kind (new c) else no_asks) ≡ record { since = if p c then now else (if o then pending_as kind (old c) else no_asks).since; asked = (if o then pending_as kind (old c) else no_asks).asked }
      by_test true none = ap (pending_as kind) (h c)
      by_test false none = rw (none refl) refl

  pub kind-undated : (c : ℕ) → (is_outside swaps c ≡ true → p c ≡ false) → kind_pending swaps new c ≡ kind_pending swaps old c
  kind-undated c none = by_test (is_outside swaps c) none
    where
      by_test : (o : Bool) → (o ≡ true → p c ≡ false) → (if o then pending_as kind (new c) else no_asks) ≡ (if o then pending_as kind (old c) else no_asks)
      by_test true none = ap (pending_as kind) (h c) ∙ dated-if kind (p c) now (old c) (none refl)
      by_test false none = refl

  pub status-undated : (s : ℕ) → (s < swaps → p (swap_address s) ≡ false) → status_pending swaps new s ≡ status_pending swaps old s
  status-undated s none = by_test (nat_lt s swaps) (λ told. none (grind (arith, common_steps, told)))
    where
      by_test : (o : Bool) → (o ≡ true → p (swap_address s) ≡ false) → (if o then pending_as status_of (new (swap_address s)) else no_asks) ≡ (if o then pending_as status_of (old (swap_address s)) else no_asks)
      by_test true none = ap (pending_as status_of) (h (swap_address s)) ∙ dated-if status_of (p (swap_address s)) now (old (swap_address s)) (none refl)
      by_test false none = refl

  pub field-undated : (s k : ℕ) → (s < swaps → k < field_count → p (field_address s k) ≡ false) → field_pending swaps new s k ≡ field_pending swaps old s k
  field-undated s k none = by_test (nat_lt s swaps) (nat_lt k field_count) (λ told less. none (grind (arith, common_steps, told)) (grind (arith, common_steps, less)))
    where
      by_test : (o r : Bool) → (o ≡ true → r ≡ true → p (field_address s k) ≡ false)
          → (if o then if r then new (field_address s k) else no_asks else no_asks) ≡ (if o then if r then old (field_address s k) else no_asks else no_asks)
      by_test true true none = h (field_address s k) ∙ field-if (p (field_address s k)) now (old (field_address s k)) (none refl refl)
      by_test true false none = refl
      by_test false r none = refl

  -- the status of one descriptor alone
  pub status-dated : (s t : ℕ) → s < swaps → (t < swaps → p (swap_address t) ≡ (t == s))
      → status_pending swaps new t ≡ record { since = if t == s then now else (status_pending swaps old t).since; asked = (status_pending swaps old t).asked }
  status-dated s t lt told = by_test (nat_lt t swaps) (t == s) (λ here. told (grind (arith, common_steps, here))) (λ past. grind (arith, common_steps, past, lt))
    where
      by_test : (o b : Bool) → (o ≡ true → p (swap_address t) ≡ b) → (o ≡ false → b ≡ false)
          → (if o then pending_as status_of (new (swap_address t)) else no_asks)
          ≡ record { since = if b then now else (if o then pending_as status_of (old (swap_address t)) else no_asks).since; asked = (if o then pending_as status_of (old (swap_address t)) else no_asks).asked }
      by_test true b same none = ap (pending_as status_of) (h (swap_address t)) ∙ ap (λ (x : Bool). pending_as status_of (record { since = if x then now else (old (swap_address t)).since; asked = (old (swap_address t)).asked })) (same refl)
      by_test false b same none = rw (none refl) refl

  -- one word of one descriptor after its status alone
  pub field-dated : (s k t j : ℕ) → s < swaps → k < field_count → (t < swaps → j < field_count → p (field_address t j) ≡ (if t == s then j == k else false))
      → field_pending swaps new t j ≡ record { since = if t == s then if j == k then now else (field_pending swaps old t j).since else (field_pending swaps old t j).since; asked = (field_pending swaps old t j).asked }
  field-dated s k t j lt less told =
      by_test (nat_lt t swaps) (nat_lt j field_count) (t == s) (j == k) (λ here inside. told (grind (arith, common_steps, here)) (grind (arith, common_steps, inside))) (λ past. grind (arith, common_steps, past, lt)) (λ past. grind (arith, common_steps, past, less))
    where
      since-if : (x a b : Bool) (n m : ℕ) → x ≡ (if a then b else false) → (if x then n else m) ≡ (if a then if b then n else m else m)
      since-if x true b n m e = rw e refl
      since-if x false b n m e = rw e refl

      none-if : (a : Bool) → no_asks {A = ℕ} ≡ record { since = if a then if false then now else 0 else 0; asked = λ w. None }
      none-if true = refl
      none-if false = refl

      by_test : (o r a b : Bool) → (o ≡ true → r ≡ true → p (field_address t j) ≡ (if a then b else false)) → (o ≡ false → a ≡ false) → (r ≡ false → b ≡ false)
          → (if o then if r then new (field_address t j) else no_asks else no_asks)
          ≡ record {
            since = if a then if b then now else (if o then if r then old (field_address t j) else no_asks else no_asks).since else (if o then if r then old (field_address t j) else no_asks else no_asks).since;
            asked = (if o then if r then old (field_address t j) else no_asks else no_asks).asked;
          }
      by_test true true a b same none last = h (field_address t j) ∙ (λ i. record { since = since-if (p (field_address t j)) a b now (old (field_address t j)).since (same refl refl) i; asked = (old (field_address t j)).asked })
      by_test true false a b same none last = rw (last refl) (none-if a)
      by_test false r a b same none last = rw (none refl) refl

saved-if : {A : Type 0} (f : ℕ → A) (b : Bool) (q : Saved ℕ) (o : Option (Saved ℕ)) → saved_as f (if b then Some q else o) ≡ (if b then Some (record { moment = q.moment; value = f q.value }) else saved_as f o)
saved-if f true q o = refl
saved-if f false q o = refl

as-saved : {A : Type 0} (f : ℕ → A) (p : Pending ℕ) (w moment x : ℕ) → pending_as f (with_saved p w moment x) ≡ with_saved (pending_as f p) w moment (f x)
as-saved f p w moment x = λ i. record { since = p.since; asked = λ v. saved-if f (v == w) (record { moment = moment; value = x }) (p.asked v) i }

-- a word that means something was asked for, where the test on addresses is the machine's
as-asked : {A : Type 0} (f : ℕ → A) (t b : Bool) (p : Pending ℕ) (w moment x : ℕ) → t ≡ b → pending_as f (if t then with_saved p w moment x else p) ≡ (if b then with_saved (pending_as f p) w moment (f x) else pending_as f p)
as-asked f true true p w moment x e = as-saved f p w moment x
as-asked f false false p w moment x e = refl
as-asked f true false p w moment x e = absurd (cc)
as-asked f false true p w moment x e = absurd (cc)

field-asked-if : (t b : Bool) (p : Pending ℕ) (w moment x : ℕ) → t ≡ b → (if t then with_saved p w moment x else p) ≡ (if b then with_saved p w moment x else p)
field-asked-if t b p w moment x e = rw e refl

module _ (swaps : ℕ) (p : ℕ → Bool) (w moment : ℕ) (words : ℕ → ℕ) (old new : ℕ → Pending ℕ) (h : AreSaved p w moment words old new) where
  pub kind-asked : (c : ℕ) (b : Bool) → (is_outside swaps c ≡ true → p c ≡ b) → (is_outside swaps c ≡ false → b ≡ false)
      → kind_pending swaps new c ≡ (if b then with_saved (kind_pending swaps old c) w moment (kind_in swaps words c) else kind_pending swaps old c)
  kind-asked c b same none = by_test (is_outside swaps c) same none
    where
      by_test : (o : Bool) → (o ≡ true → p c ≡ b) → (o ≡ false → b ≡ false)
          → (if o then pending_as kind (new c) else no_asks) ≡ (if b then with_saved (if o then pending_as kind (old c) else no_asks) w moment (if o then kind (words c) else Value 0) else (if o then pending_as kind (old c) else no_asks))
      by_test true same none = ap (pending_as kind) (h c) ∙ as-asked kind (p c) b (old c) w moment (words c) (same refl)
      by_test false same none = rw (none refl) refl

  pub status-asked : (t : ℕ) (b : Bool) → (t < swaps → p (swap_address t) ≡ b) → (swaps ≤ t → b ≡ false)
      → status_pending swaps new t ≡ (if b then with_saved (status_pending swaps old t) w moment (status_in swaps words t) else status_pending swaps old t)
  status-asked t b same none = by_test (nat_lt t swaps) (λ here. same (grind (arith, common_steps, here))) (λ past. none (grind (arith, common_steps, past)))
    where
      by_test : (o : Bool) → (o ≡ true → p (swap_address t) ≡ b) → (o ≡ false → b ≡ false)
          → (if o then pending_as status_of (new (swap_address t)) else no_asks)
          ≡ (if b then with_saved (if o then pending_as status_of (old (swap_address t)) else no_asks) w moment (if o then status_of (words (swap_address t)) else Free) else (if o then pending_as status_of (old (swap_address t)) else no_asks))
      by_test true same none = ap (pending_as status_of) (h (swap_address t)) ∙ as-asked status_of (p (swap_address t)) b (old (swap_address t)) w moment (words (swap_address t)) (same refl)
      by_test false same none = rw (none refl) refl

  pub field-asked : (t j : ℕ) (b : Bool) → (t < swaps → j < field_count → p (field_address t j) ≡ b) → (swaps ≤ t → b ≡ false) → (field_count ≤ j → b ≡ false)
      → field_pending swaps new t j ≡ (if b then with_saved (field_pending swaps old t j) w moment (field_in swaps words t j) else field_pending swaps old t j)
  field-asked t j b same none last =
      by_test (nat_lt t swaps) (nat_lt j field_count) (λ here inside. same (grind (arith, common_steps, here)) (grind (arith, common_steps, inside))) (λ past. none (grind (arith, common_steps, past))) (λ past. last (grind (arith, common_steps, past)))
    where
      by_test : (o r : Bool) → (o ≡ true → r ≡ true → p (field_address t j) ≡ b) → (o ≡ false → b ≡ false) → (r ≡ false → b ≡ false)
          → (if o then if r then new (field_address t j) else no_asks else no_asks)
          ≡ (if b then with_saved (if o then if r then old (field_address t j) else no_asks else no_asks) w moment (if o then if r then words (field_address t j) else 0 else 0) else (if o then if r then old (field_address t j) else no_asks else no_asks))
      by_test true true same none last = h (field_address t j) ∙ field-asked-if (p (field_address t j)) b (old (field_address t j)) w moment (words (field_address t j)) (same refl refl)
      by_test true false same none last = rw (last refl) refl
      by_test false r same none last = rw (none refl) refl

since-as : {A : Type 0} (f : ℕ → A) (since : ℕ) (o : Option (Saved ℕ)) → fenced_since since o ≡ fenced_since since (saved_as f o)
since-as f since None = refl
since-as f since (Some q) = refl

left-as : {A : Type 0} (f : ℕ → A) (b : Bool) (o : Option (Saved ℕ)) → saved_as f (if b then None else o) ≡ (if b then None else saved_as f o)
left-as f true o = refl
left-as f false o = refl

as-fence : {A : Type 0} (f : ℕ → A) (p : Pending ℕ) (w : ℕ) → pending_as f (with_fence p w) ≡ with_fence (pending_as f p) w
as-fence f p w = λ i. record { since = since-as f p.since (p.asked w) i; asked = λ v. left-as f (v == w) (p.asked v) i }

value-if : {A : Type 0} (f : ℕ → A) (b : Bool) (x y : ℕ) → f (if b then x else y) ≡ (if b then f x else f y)
value-if f true x y = refl
value-if f false x y = refl

value-as : {A : Type 0} (f : ℕ → A) (d since : ℕ) (o : Option (Saved ℕ)) → f (fenced_value d since o) ≡ fenced_value (f d) since (saved_as f o)
value-as f d since None = refl
value-as f d since (Some q) = value-if f (nat_lt since q.moment) q.value d

none-left : {A : Type 0} (b : Bool) → (no_asks {A = A}).asked 0 ≡ (if b then None else (no_asks {A = A}).asked 0)
none-left true = refl
none-left false = refl

no-fence : {A : Type 0} (w : ℕ) → no_asks {A = A} ≡ with_fence no_asks w
no-fence w = λ i. record { since = 0; asked = λ v. none-left (v == w) i }

module _ (swaps w : ℕ) (old new : ℕ → Pending ℕ) (h : AreFenced w old new) where
  pub kind-fenced : (c : ℕ) → kind_pending swaps new c ≡ with_fence (kind_pending swaps old c) w
  kind-fenced c = by_test (is_outside swaps c)
    where
      by_test : (o : Bool) → (if o then pending_as kind (new c) else no_asks) ≡ with_fence (if o then pending_as kind (old c) else no_asks) w
      by_test true = ap (pending_as kind) (h c) ∙ as-fence kind (old c) w
      by_test false = no-fence w

  pub status-fenced : (t : ℕ) → status_pending swaps new t ≡ with_fence (status_pending swaps old t) w
  status-fenced t = by_test (nat_lt t swaps)
    where
      by_test : (o : Bool) → (if o then pending_as status_of (new (swap_address t)) else no_asks) ≡ with_fence (if o then pending_as status_of (old (swap_address t)) else no_asks) w
      by_test true = ap (pending_as status_of) (h (swap_address t)) ∙ as-fence status_of (old (swap_address t)) w
      by_test false = no-fence w

  pub field-fenced : (t j : ℕ) → field_pending swaps new t j ≡ with_fence (field_pending swaps old t j) w
  field-fenced t j = by_test (nat_lt t swaps) (nat_lt j field_count)
    where
      by_test : (o r : Bool) → (if o then if r then new (field_address t j) else no_asks else no_asks) ≡ with_fence (if o then if r then old (field_address t j) else no_asks else no_asks) w
      by_test true true = h (field_address t j)
      by_test true false = no-fence w
      by_test false r = no-fence w

-- the words after a fence
module _ (swaps w : ℕ) (old : ℕ → Pending ℕ) (words into : ℕ → ℕ) (h : (b : ℕ) → into b ≡ fenced_value (words b) (old b).since ((old b).asked w)) where
  pub kind-settled : (c : ℕ) → kind_in swaps into c ≡ fenced_value (kind_in swaps words c) (kind_pending swaps old c).since ((kind_pending swaps old c).asked w)
  kind-settled c = by_test (is_outside swaps c)
    where
      by_test : (o : Bool) → (if o then kind (into c) else Value 0) ≡ fenced_value (if o then kind (words c) else Value 0) (if o then pending_as kind (old c) else no_asks).since ((if o then pending_as kind (old c) else no_asks).asked w)
      by_test true = ap kind (h c) ∙ value-as kind (words c) (old c).since ((old c).asked w)
      by_test false = refl

  pub status-settled : (t : ℕ) → status_in swaps into t ≡ fenced_value (status_in swaps words t) (status_pending swaps old t).since ((status_pending swaps old t).asked w)
  status-settled t = by_test (nat_lt t swaps)
    where
      by_test : (o : Bool) → (if o then status_of (into (swap_address t)) else Free)
          ≡ fenced_value (if o then status_of (words (swap_address t)) else Free) (if o then pending_as status_of (old (swap_address t)) else no_asks).since ((if o then pending_as status_of (old (swap_address t)) else no_asks).asked w)
      by_test true = ap status_of (h (swap_address t)) ∙ value-as status_of (words (swap_address t)) (old (swap_address t)).since ((old (swap_address t)).asked w)
      by_test false = refl

  pub field-settled : (t j : ℕ) → field_in swaps into t j ≡ fenced_value (field_in swaps words t j) (field_pending swaps old t j).since ((field_pending swaps old t j).asked w)
  field-settled t j = by_test (nat_lt t swaps) (nat_lt j field_count)
    where
      by_test : (o r : Bool) → (if o then if r then into (field_address t j) else 0 else 0)
          ≡ fenced_value (if o then if r then words (field_address t j) else 0 else 0) (if o then if r then old (field_address t j) else no_asks else no_asks).since ((if o then if r then old (field_address t j) else no_asks else no_asks).asked w)
      by_test true true = h (field_address t j)
      by_test true false = refl
      by_test false r = refl
