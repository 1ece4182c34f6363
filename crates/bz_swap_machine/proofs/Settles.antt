-- What is durable changes, or what is asked for: each value that may last afterwards is the cached one or might last before.
use Rattle.std.proofs.Common.{◌⊎◌, ◌≡◌, ◌≢◌, ℕ, ◌<◌, Bool, true, false, arith, refl, sym, ap, subst, ◌∙◌, inl, inr}
use Rattle.std.proofs.lemmas.Grind.{common_steps}
use Rattle.std.proofs.lemmas.Bool.{cases_eq}
use Rattle.bz_word.specs.declared.kind.WordKind.{WordKind}
use Rattle.bz_word.specs.declared.kind.WordKind.TheVariants.{Value, Dirty, Swap, Tag}
use Rattle.bz_swap_machine.specs.declared.status.SwapStatus.{SwapStatus}
use Rattle.bz_swap_machine.specs.declared.status.SwapStatus.TheVariants.{Free, Undecided, Deciding, Decided}
use Rattle.bz_swap_machine.specs.declared.status.Verdict.{Verdict}
use Rattle.bz_swap_machine.specs.declared.status.Verdict.TheVariants.{Succeeded}
use Rattle.bz_swap_machine.specs.Pending.{Pending, Lasts, IsLast, IsDurable, IsAsked, IsPast}
use Rattle.bz_swap_machine.specs.Machine.{Entries, Memory, is_verdict, is_succeeded, resolve, MayLast, StatusMayLast, FieldMayLast}
use Rattle.bz_swap_machine.specs.Sound.{Follows, InOrder, IsUnset, IsTarget, AreApart, Sound}
use Rattle.bz_swap_machine.specs.Keeps.{Keeps, KeepsDescriptor}
use Rattle.bz_swap_machine.specs.Content.{content, TakesEffect, Quiet, QuietOrEffect}
use Rattle.bz_swap_machine.proofs.Change.{Change, no_miss}
use Rattle.bz_swap_machine.proofs.Published.{decided-published, durably_decided-published, same_verdict}
use Rattle.bz_swap_machine.proofs.Lasting.{lasts-cases, lasts-durable}

-- the first memory with what is durable and asked for in the second
abbrev pub with_durable : Memory → Memory → Memory
with_durable m z = record m {
  durable = z.durable;
  durable_status = z.durable_status;
  durable_words = z.durable_words;
  now = z.now;
  pending = z.pending;
  status_pending = z.status_pending;
  words_pending = z.words_pending;
}

-- what makes that lawful: what may last is what is cached or might last before, no status goes back, and asks were made by now
pub record Settles (m z : Memory) : Type 0 where
  pub words : (a : ℕ) (x : WordKind) → MayLast z a x → (x ≡ m.cached a) ⊎ MayLast m a x
  pub fields : (s k v : ℕ) → FieldMayLast z s k v → (v ≡ m.words s k) ⊎ FieldMayLast m s k v
  pub statuses : (s : ℕ) (k : SwapStatus) → StatusMayLast z s k → (k ≡ m.status s) ⊎ StatusMayLast m s k
  pub order : (s : ℕ) → m.published s ≡ true → InOrder (z.durable_status s) (z.status_pending s)
  pub onward : (s : ℕ) → m.published s ≡ true → Follows (z.durable_status s) (m.durable_status s)
  pub past : (a : ℕ) → IsPast z.now (z.pending a)
  pub status_past : (s : ℕ) → IsPast z.now (z.status_pending s)
  pub words_past : (s k : ℕ) → IsPast z.now (z.words_pending s k)

pub Follows-self : (c k : SwapStatus) → Follows c k → Follows c c
Follows-self Undecided k f = tt
Follows-self (Deciding c) k f = refl
Follows-self (Decided c) k f = refl
Follows-self Free k f = f

pub Follows-last : (c k : SwapStatus) → Follows c k → Follows k k
Follows-last c Undecided f = tt
Follows-last c (Deciding d) f = refl
Follows-last c (Decided d) f = refl
Follows-last Undecided Free f = f
Follows-last (Deciding c) Free f = f
Follows-last (Decided c) Free f = f
Follows-last Free Free f = f

pub undecided-durable : (c k : SwapStatus) → Follows c k → c ≡ Undecided → k ≡ Undecided
undecided-durable c k f h = grind arith

-- a status that goes on from another says the same of success, or the other was undecided
pub success-onward : (c k : SwapStatus) → Follows c k → (is_succeeded c ≡ is_succeeded k) ⊎ ((is_succeeded c ≡ true) × (k ≡ Undecided))
success-onward c k f = grind arith

success-up : (c k : SwapStatus) → Follows c k → is_succeeded k ≡ true → is_succeeded c ≡ true
success-up c k f h = grind arith

-- a word stands for the same where the success of its swap does
resolve-same : (e : ℕ → Entries) (old new : ℕ → SwapStatus) (a : ℕ) (x : WordKind) → ((s : ℕ) → x ≡ Swap s → is_succeeded (new s) ≡ is_succeeded (old s)) → resolve e new a x ≡ resolve e old a x
resolve-same e old new a (Value v) h = refl
resolve-same e old new a (Dirty v) h = refl
resolve-same e old new a (Swap s) h = rw (h s refl) refl
resolve-same e old new a (Tag s i w q) h = refl

-- a swap succeeds durably with this change: success stood in the cache alone before
pub record Wins (m z : Memory) (s : ℕ) : Type 0 where
  pub published : m.published s ≡ true
  pub cached : is_succeeded (m.status s) ≡ true
  pub before : m.durable_status s ≡ Undecided
  pub after : is_succeeded (z.durable_status s) ≡ true

module _ (e : ℕ → Entries) (m z : Memory) (h : Settles m z) (g : Sound e m) where
  lasts-now : (a : ℕ) → (z.durable a ≡ m.cached a) ⊎ MayLast m a (z.durable a)
  lasts-now a = h.words a (z.durable a) (lasts-durable _ _)

  status-now : (s : ℕ) → m.published s ≡ true → Follows (m.status s) (z.durable_status s)
  status-now s p = elim (h.statuses s (z.durable_status s) (lasts-durable _ _)) [
    | inl same ↦ rw same (Follows-self (m.status s) (m.durable_status s) (g.follows s (m.durable_status s) (lasts-durable _ _) p))
    | inr was ↦ g.follows s (z.durable_status s) was p
  ]

  unset-now : (s : ℕ) (k : SwapStatus) → StatusMayLast z s k → m.published s ≡ false → IsUnset k
  unset-now s k may p = elim (h.statuses s k may) [
    | inl same ↦ rw same (g.unset s p)
    | inr was ↦ g.unset_durable s k was p
  ]

  unset-same : (c k : SwapStatus) → IsUnset c → IsUnset k → is_succeeded c ≡ is_succeeded k
  unset-same c k u v = grind arith

  pub wins-or : (s : ℕ) (b : Bool) → m.published s ≡ b → (is_succeeded (z.durable_status s) ≡ is_succeeded (m.durable_status s)) ⊎ Wins m z s
  wins-or s true p = elim (success-onward (z.durable_status s) (m.durable_status s) (h.onward s p)) [
    | inl same ↦ inl same
    | inr won ↦ inr (record { published = p; cached = success-up (m.status s) (z.durable_status s) (status-now s p) won.0; before = won.1; after = won.0 })
  ]
  wins-or s false p = inl (unset-same (z.durable_status s) (m.durable_status s) (unset-now s (z.durable_status s) (lasts-durable _ _) p) (g.unset_durable s (m.durable_status s) (lasts-durable _ _) p))

  -- all targets of a swap that succeeds with this change hold its pointer, in cache and wherever it may last
  won-cached : (s a : ℕ) → Wins m z s → IsTarget e m.published s a → m.cached a ≡ Swap s
  won-cached s a won t = subst (λ b. m.cached b ≡ Swap s) t.target (g.standing s ((e s).index a) t.entry won.cached won.before)

  won-lasting : (s a : ℕ) (x : WordKind) → Wins m z s → IsTarget e m.published s a → MayLast m a x → x ≡ Swap s
  won-lasting s a x won t may = g.standing_durable s ((e s).index a) x t.entry won.cached won.before (subst (λ b. MayLast m b x) (sym t.target) may)

  -- a word is the pointer of a swap that succeeds with this change, or stands for what it stood for
  word-cases : (y : WordKind) → ((s : ℕ) → y ≡ Swap s → is_succeeded (z.durable_status s) ≡ is_succeeded (m.durable_status s)) ⊎ ((s : ℕ) × (y ≡ Swap s) × Wins m z s)
  word-cases (Value v) = inl (λ s is. absurd (grind (arith, is)))
  word-cases (Dirty v) = inl (λ s is. absurd (grind (arith, is)))
  word-cases (Tag t i w q) = inl (λ s is. absurd (grind (arith, is)))
  word-cases (Swap t) = elim (wins-or t (m.published t) refl) [
    | inl same ↦ inl (λ s is. grind (arith, is, same))
    | inr won ↦ inr (t, refl, won)
  ]

  same-before : (a : ℕ) (x : WordKind) → MayLast m a x → m.named a ≡ true → resolve e z.durable_status a (m.cached a) ≡ resolve e z.durable_status a x
  same-before a x may nm = elim (word-cases (m.cached a)) [
    | inr w ↦ ap (resolve e z.durable_status a) (w.1 ∙ sym (won-lasting w.0 a x w.2 (g.pointer a w.0 w.1) may))
    | inl keeps ↦ elim (word-cases x) [
      | inr w ↦ ap (resolve e z.durable_status a) (won-cached w.0 a w.2 (g.pointer_durable a w.0 x may w.1) ∙ sym w.1)
      | inl keeps' ↦ resolve-same e m.durable_status z.durable_status a (m.cached a) keeps ∙ g.same a x may nm ∙ sym (resolve-same e m.durable_status z.durable_status a x keeps')
    ]
  ]

  same-after : (a : ℕ) (x : WordKind) → MayLast z a x → m.named a ≡ true → resolve e z.durable_status a (m.cached a) ≡ resolve e z.durable_status a x
  same-after a x may nm = elim (h.words a x may) [
    | inl same ↦ ap (resolve e z.durable_status a) (sym same)
    | inr was ↦ same-before a x was nm
  ]

  -- what is undecided durably was
  was-undecided : (s : ℕ) → is_succeeded (m.status s) ≡ true → z.durable_status s ≡ Undecided → m.durable_status s ≡ Undecided
  was-undecided s won und = undecided-durable (z.durable_status s) (m.durable_status s) (h.onward s (decided-published e m s Succeeded g won)) und

  verdict-after : (s : ℕ) (d : Verdict) → is_verdict (m.durable_status s) d ≡ true → is_verdict (z.durable_status s) d ≡ true
  verdict-after s d is = same_verdict (z.durable_status s) (m.durable_status s) d (h.onward s (durably_decided-published e m s d g is)) is

  follows-after : (s : ℕ) (k : SwapStatus) → StatusMayLast z s k → m.published s ≡ true → Follows (m.status s) k
  follows-after s k may p = elim (h.statuses s k may) [
    | inl same ↦ rw same (Follows-self (m.status s) (m.durable_status s) (g.follows s (m.durable_status s) (lasts-durable _ _) p))
    | inr was ↦ g.follows s k was p
  ]

  pub sound-settled : Sound e (with_durable m z)
  sound-settled = record {
    same = same-after;
    private = g.private;
    private_durable = λ a x may nm. elim (h.words a x may) [ inl same ↦ rw same (g.private a nm) | inr was ↦ g.private_durable a x was nm ];
    pointer = g.pointer;
    pointer_durable = λ a s x may is. elim (h.words a x may) [ inl same ↦ g.pointer a s (sym same ∙ is) | inr was ↦ g.pointer_durable a s x was is ];
    tag = g.tag;
    tag_durable = λ a s i w q x may is. elim (h.words a x may) [ inl same ↦ g.tag a s i w q (sym same ∙ is) | inr was ↦ g.tag_durable a s i w q x was is ];
    fresh = g.fresh;
    targets = g.targets;
    begun = g.begun;
    not_begun = g.not_begun;
    words = g.words;
    durable_words = λ s k v may p le. elim (h.fields s k v may) [ inl same ↦ same ∙ g.words s k p le | inr was ↦ g.durable_words s k v was p le ];
    follows = follows-after;
    order = h.order;
    unset = g.unset;
    unset_durable = unset-now;
    unmissed = g.unmissed;
    unanswered = g.unanswered;
    standing = λ s i lt won und. g.standing s i lt won (was-undecided s won und);
    standing_durable = λ s i x lt won und may. elim (h.words ((e s).target i) x may) [
      | inl same ↦ same ∙ g.standing s i lt won (was-undecided s won und)
      | inr was ↦ g.standing_durable s i x lt won (was-undecided s won und) was
    ];
    missed = g.missed;
    answered = λ s d is. verdict-after s d (g.answered s d is);
    past = h.past;
    status_past = h.status_past;
    words_past = h.words_past;
  }

  keeps-settled : Keeps e m (with_durable m z)
  keeps-settled = record {
    published = λ s p. p;
    missed = λ s is. is;
    numbers = λ w. omega arith;
    named = λ a. refl;
    taken = refl;
    owner = λ s. refl;
    undecided = λ s p u. u;
    verdict = λ s d is. is;
    durable_verdict = verdict-after;
    pointer = λ s i lt u is. is;
    pointer_durable = λ s i lt u is all x may. elim (h.words ((e s).target i) x may) [ inl same ↦ same ∙ is | inr was ↦ all x was ];
    old_tag = λ a s i w q lt is. is;
    under_tag = λ s i w q lt is k. k;
  }

  descriptor-settled : (t : ℕ) → KeepsDescriptor m (with_durable m z) t
  descriptor-settled t = record {
    published = refl;
    answer = refl;
    words = λ k. refl;
    durable_words = λ k all v may. elim (h.fields t k v may) [ inl same ↦ same | inr was ↦ all v was ];
    status = λ p. refl;
    durable_status = λ p all k may. elim (h.statuses t k may) [ inl same ↦ same | inr was ↦ all k was ];
  }

  -- where no swap succeeds with this change every address keeps what it holds, since its cached word stands for the same
  keeps-content : (a : ℕ) → m.named a ≡ true → ((s : ℕ) → m.cached a ≡ Swap s → is_succeeded (z.durable_status s) ≡ is_succeeded (m.durable_status s)) → content e (with_durable m z) a ≡ content e m a
  keeps-content a nm keeps =
      sym (same-after a (z.durable a) (lasts-durable _ _) nm) ∙ resolve-same e m.durable_status z.durable_status a (m.cached a) keeps ∙ g.same a (m.durable a) (lasts-durable _ _) nm

  quiet-settled : ((s : ℕ) → is_succeeded (z.durable_status s) ≡ is_succeeded (m.durable_status s)) → Quiet e m (with_durable m z)
  quiet-settled keeps = record { content = λ a nm. keeps-content a nm (λ s is. keeps s); swaps = keeps }

  before-won : (s i : ℕ) → AreApart e → i < (e s).count → Wins m z s → content e m ((e s).target i) ≡ (e s).expected i
  before-won s i o lt won =
      let stands : m.durable ((e s).target i) ≡ Swap s = g.standing_durable s i (m.durable ((e s).target i)) lt won.cached won.before (lasts-durable _ _) in
      rw stands (grind (arith, common_steps, won.before, o s i lt))

  after-won : (s i : ℕ) → AreApart e → i < (e s).count → Wins m z s → content e (with_durable m z) ((e s).target i) ≡ (e s).value i
  after-won s i o lt won =
      let stands : m.cached ((e s).target i) ≡ Swap s = g.standing s i lt won.cached won.before in
      sym (same-after ((e s).target i) (z.durable ((e s).target i)) (lasts-durable _ _) (g.targets s i lt)) ∙ rw stands (grind (arith, common_steps, won.after, o s i lt))

  takes-effect : (s : ℕ) → AreApart e → ((t : ℕ) → t ≢ s → z.durable_status t ≡ m.durable_status t) → Wins m z s → TakesEffect e m (with_durable m z) s
  takes-effect s o stay won = record {
    before = rw won.before refl;
    done = won.after;
    other_swaps = λ t ne. ap is_succeeded (stay t ne);
    expected = λ i lt. before-won s i o lt won;
    value = λ i lt. after-won s i o lt won;
    others = λ a nm out. keeps-content a nm (λ t is. ap is_succeeded (stay t (λ same. out ((e s).index a) (subst (λ u. IsTarget e m.published u a) same (g.pointer a t is)).entry (sym (subst (λ u. IsTarget e m.published u a) same (g.pointer a t is)).target))));
  }

  effect-settled : (s : ℕ) → AreApart e → ((t : ℕ) → t ≢ s → z.durable_status t ≡ m.durable_status t) → QuietOrEffect e m (with_durable m z) s
  effect-settled s o stay = elim (wins-or s (m.published s) refl) [
    | inl same ↦ inl (quiet-settled (λ t. elim (cases_eq t s) [ inl here ↦ subst (λ u. is_succeeded (z.durable_status u) ≡ is_succeeded (m.durable_status u)) (sym here) same | inr ne ↦ ap is_succeeded (stay t ne) ]))
    | inr won ↦ inr (takes-effect s o stay won)
  ]

  -- at most the status of swap s becomes another durably
  pub change-settled : (s : ℕ) → AreApart e → ((t : ℕ) → t ≢ s → z.durable_status t ≡ m.durable_status t) → Change e m (with_durable m z) s
  change-settled s o stay = record {
    sound = sound-settled;
    keeps = keeps-settled;
    descriptors = descriptor-settled;
    effect = effect-settled s o stay;
    misses = no_miss e m (with_durable m z) refl;
  }

  -- no status does
  pub change-quietly : (s : ℕ) → ((t : ℕ) → z.durable_status t ≡ m.durable_status t) → Change e m (with_durable m z) s
  change-quietly s stay = record {
    sound = sound-settled;
    keeps = keeps-settled;
    descriptors = descriptor-settled;
    effect = inl (quiet-settled (λ t. ap is_succeeded (stay t)));
    misses = no_miss e m (with_durable m z) refl;
  }

-- where the durable statuses stay they go on from themselves
pub onward-same : (e : ℕ → Entries) (m : Memory) → Sound e m → (s : ℕ) → m.published s ≡ true → Follows (m.durable_status s) (m.durable_status s)
onward-same e m g s p = Follows-last (m.status s) (m.durable_status s) (g.follows s (m.durable_status s) (lasts-durable _ _) p)

onward-last : (d : SwapStatus) (p : Pending SwapStatus) (k : SwapStatus) → Follows d d → InOrder d p → IsLast d p k → Follows k d
onward-last d p k self order (IsDurable is) = rw is self
onward-last d p k self order (IsAsked w q asked after is) = rw is (order.first w q asked after)

-- each status that may last goes on from the durable one
pub lasts-onward : (d : SwapStatus) (p : Pending SwapStatus) (k : SwapStatus) → Follows d d → InOrder d p → Lasts d p k → Follows k d
lasts-onward d p k self order l = onward-last d p k self order (lasts-cases _ _ _ l)
