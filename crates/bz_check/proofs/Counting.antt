-- What is counted of marks stays right after each mark, and how things stand for an End.
use Rattle.std.specs.Prelude.{◌≡◌, ◌≢◌, ◌<◌, ◌≤◌, ◌+◌, ◌-◌, ◌/◌, ◌%◌, ◌==◌, ◌&&◌, ◌||◌, ◌↔◌, not, nat_lt, nat_le, if◌then◌else◌, count_by, ℕ, zero, suc, Bool, true, false, List, [], ◌∷◌, length, replicate, slice_index, slice_set, Option, Some, None, option_map, is_some}
use Rattle.std.proofs.Common.{arith, refl, sym, ap, ◌∙◌, subst, inl, inr}
use Rattle.std.specs.List.{range_with_len}
use Rattle.std.proofs.lemmas.Bool.{cases_eq, cases_lt}
use Rattle.std.proofs.lemmas.Bool.Decides.{nat_tests}
use Rattle.std.proofs.lemmas.List.{get_or-set_same, get_or-set_other, length-set, length-replicate}
use Rattle.bz_call.specs.declared.replies.Reply.{Reply}
use Rattle.bz_call.specs.declared.replies.Reply.TheVariants.{Page}
use Rattle.bz_layout.specs.Addresses.{swap_address}
use Rattle.bz_layout.specs.Config.{IsConfig}
use Rattle.bz_layout.specs.declared.config.Config.{Config}
use Rattle.bz_layout.specs.declared.sizes.TheConstants.{SUPERBLOCK_WORDS, SWAP_STATUS_AT, SWAP_WORDS}
use Rattle.bz_mark.specs.Counts.{BEGUN, is_taken, count_taken}
use Rattle.bz_mark.specs.Log.{count_page_ends}
use Rattle.bz_mark.specs.Times.{since_on}
use Rattle.bz_mark.specs.declared.marks.Mark.{Mark}
use Rattle.bz_mark.specs.declared.marks.Mark.TheVariants.{Store, End, On}
use Rattle.bz_mark.specs.declared.power.Power.{Power}
use Rattle.bz_sound.specs.Calls.{Open, open_call}
use Rattle.bz_sound.specs.Memory.Spent.{count_others}
use Rattle.bz_sound.proofs.Memory.Counts.{counts, passing, passing-count, none-passing, without, without-one}
use Rattle.bz_check.specs.declared.counter.Standing.{Standing}
use Rattle.bz_check.specs.declared.table.OpenCall.{OpenCall}
use Rattle.bz_check.specs.Counts.{Counted, Counts, no_counts, taken_from, taken_by, with_taken, with_reply, counts_after, standing_in}
use Rattle.bz_check.specs.Knowing.{open_of, Knows}
use Rattle.bz_check.specs.Tables.{Known, open_in, is_other_in, others_in}
use Rattle.bz_check.proofs.Tests.{same_test, other_test}
use Rattle.bz_check.proofs.Following.{false_true, eq_of, less_of, less_test, both_of, both}

-- how many numbers of a range pass: as many by tests that agree there
same-passing : (p q : ℕ → Bool) (a n : ℕ) → ((i : ℕ) → a ≤ i → i < a + n → p i ≡ q i) → passing p a n ≡ passing q a n
unfolding passing
same-passing p q a zero h = refl
same-passing p q a (suc n) h = omega (arith, ap counts (h a (omega arith) (omega arith)), same-passing p q (a + 1) n (λ i low high. h i (omega arith) (omega arith)))

pub same-count : (p q : ℕ → Bool) (a n : ℕ) → ((i : ℕ) → a ≤ i → i < a + n → p i ≡ q i) → count_by p (range_with_len a n) ≡ count_by q (range_with_len a n)
same-count p q a n h = sym (passing-count p a n) ∙ same-passing p q a n h ∙ passing-count q a n

drops : (b same t : Bool) → same ≡ true → t ≡ false → (b && not same) ≡ t
drops true true false e f = refl
drops false true false e f = refl
drops b false t e f = absurd (false_true e)
drops b true true e f = absurd (false_true (sym f))

keeps : (b same : Bool) → same ≡ false → (b && not same) ≡ b
keeps true false e = refl
keeps false false e = refl
keeps b true e = absurd (false_true (sym e))

-- and one more where one number more passes
one-more : (p q : ℕ → Bool) (x n : ℕ) → x < n → p x ≡ false → q x ≡ true → ((i : ℕ) → i ≢ x → q i ≡ p i) → count_by q (range_with_len 0 n) ≡ count_by p (range_with_len 0 n) + 1
one-more p q x n lt misses hits other =
    let rest : passing (without q x) 0 n ≡ passing p 0 n = same-passing (without q x) p 0 n (λ i low high. elim (cases_eq i x) [
      | inl e ↦ drops (q i) (i == x) (p i) (same_test i x e) (ap p e ∙ misses)
      | inr ne ↦ keeps (q i) (i == x) (other_test i x ne) ∙ other i ne
    ]) in
    omega (arith, sym (passing-count p 0 n), sym (passing-count q 0 n), without-one q x 0 n (omega arith) (omega arith) hits, rest)

-- how many workers have an open call, one worker after the other
passing-first : (p : ℕ → Bool) (a k : ℕ) → passing p a (suc k) ≡ counts (p a) + passing p (a + 1) k
unfolding passing
passing-first p a k = refl

passing-none : (p : ℕ → Bool) (a : ℕ) → passing p a 0 ≡ 0
unfolding passing
passing-none p a = refl

pub others_step : (p : ℕ → Bool) (i n count more all : ℕ) → i < n → more ≡ counts (p (i + 1)) → count + passing p (i + 1) (n - i) ≡ all → count + more + passing p (i + 1 + 1) (n - (i + 1)) ≡ all
others_step p i n count more all lt is h =
    let one : passing p (i + 1) (n - i) ≡ passing p (i + 1) (suc (n - (i + 1))) = ap (λ (k : ℕ). passing p (i + 1) k) (omega arith) in
    omega (arith, is, h, one, passing-first p (i + 1) (n - (i + 1)))

pub others_all : (p : ℕ → Bool) (i n count : ℕ) → n ≤ i → count + passing p (i + 1) (n - i) ≡ passing p 1 n → count ≡ count_by p (range_with_len 1 n)
others_all p i n count le h =
    let none : passing p (i + 1) (n - i) ≡ 0 = ap (λ (k : ℕ). passing p (i + 1) k) (omega arith) ∙ passing-none p (i + 1) in
    omega (arith, h, passing-count p 1 n, none)

-- the mark begins a swap in a descriptor
abbrev begins : ℕ → ℕ → ℕ → ℕ → Bool
begins w a v swap = not (w == 0) && (a == swap_address swap + SWAP_STATUS_AT && v == BEGUN)

-- which one a store takes
record Takes (swaps w a v x : ℕ) : Type 0 where
  within : x < swaps
  here : begins w a v x ≡ true
  others : (s : ℕ) → s ≢ x → begins w a v s ≡ false

abbrev TakesIf : ℕ → ℕ → ℕ → ℕ → Option ℕ → Type 0
TakesIf swaps w a v None = (s : ℕ) → s < swaps → begins w a v s ≡ false
TakesIf swaps w a v (Some x) = Takes swaps w a v x

no_worker : (x t : Bool) → x ≡ true → (not x && t) ≡ false
no_worker true t e = refl
no_worker false t e = absurd (false_true e)

no_begin : (b e f : Bool) → f ≡ false → (b && (e && f)) ≡ false
no_begin true true f h = h
no_begin true false f h = refl
no_begin false e f h = refl

no_address : (b e f : Bool) → e ≡ false → (b && (e && f)) ≡ false
no_address true false f h = refl
no_address true true f h = absurd (false_true (sym h))
no_address false e f h = refl

takes_here : (x e f : Bool) → x ≡ false → e ≡ true → f ≡ true → (not x && (e && f)) ≡ true
takes_here false true f g h i = i
takes_here false false f g h i = absurd (false_true h)
takes_here true e f g h i = absurd (false_true (sym g))

not_less : (a b : ℕ) → nat_lt a b ≡ false → b ≤ a
not_less a b h = elim (cases_lt a b) [ inl less ↦ absurd (false_true (sym h ∙ less_test a b less)) | inr le ↦ le ]

from_takes : (swaps w a v : ℕ) (t : Bool) → (w == 0) ≡ false → (v == BEGUN) ≡ true → SUPERBLOCK_WORDS ≤ a → ((a - SUPERBLOCK_WORDS) % SWAP_WORDS == SWAP_STATUS_AT && nat_lt ((a - SUPERBLOCK_WORDS) / SWAP_WORDS) swaps) ≡ t
    → TakesIf swaps w a v (if t then Some ((a - SUPERBLOCK_WORDS) / SWAP_WORDS) else None)
from_takes swaps w a v true some is above h =
    let two = both_of ((a - SUPERBLOCK_WORDS) % SWAP_WORDS == SWAP_STATUS_AT) (nat_lt ((a - SUPERBLOCK_WORDS) / SWAP_WORDS) swaps) h in
    let word : (a - SUPERBLOCK_WORDS) % SWAP_WORDS ≡ SWAP_STATUS_AT = eq_of ((a - SUPERBLOCK_WORDS) % SWAP_WORDS) SWAP_STATUS_AT two.0 in
    let at : a ≡ swap_address ((a - SUPERBLOCK_WORDS) / SWAP_WORDS) + SWAP_STATUS_AT = omega (arith, above, word) in
    record {
      within = less_of ((a - SUPERBLOCK_WORDS) / SWAP_WORDS) swaps two.1;
      here = takes_here (w == 0) (a == swap_address ((a - SUPERBLOCK_WORDS) / SWAP_WORDS) + SWAP_STATUS_AT) (v == BEGUN) some (same_test a (swap_address ((a - SUPERBLOCK_WORDS) / SWAP_WORDS) + SWAP_STATUS_AT) at) is;
      others = λ s ne. no_address (not (w == 0)) (a == swap_address s + SWAP_STATUS_AT) (v == BEGUN) (other_test a (swap_address s + SWAP_STATUS_AT) (λ e. ne (omega (arith, e))));
    }
from_takes swaps w a v false some is above h = λ s lt. no_address (not (w == 0)) (a == swap_address s + SWAP_STATUS_AT) (v == BEGUN) (other_test a (swap_address s + SWAP_STATUS_AT) (λ e. false_true (sym h ∙ placed s lt e)))
  where
    placed : (s : ℕ) → s < swaps → a ≡ swap_address s + SWAP_STATUS_AT → ((a - SUPERBLOCK_WORDS) % SWAP_WORDS == SWAP_STATUS_AT && nat_lt ((a - SUPERBLOCK_WORDS) / SWAP_WORDS) swaps) ≡ true
    placed s lt e =
        let word : (a - SUPERBLOCK_WORDS) % SWAP_WORDS ≡ SWAP_STATUS_AT = omega (arith, e) in
        let number : (a - SUPERBLOCK_WORDS) / SWAP_WORDS < swaps = omega (arith, e, lt) in
        both ((a - SUPERBLOCK_WORDS) % SWAP_WORDS == SWAP_STATUS_AT) (nat_lt ((a - SUPERBLOCK_WORDS) / SWAP_WORDS) swaps)
        (same_test ((a - SUPERBLOCK_WORDS) % SWAP_WORDS) SWAP_STATUS_AT word) (less_test ((a - SUPERBLOCK_WORDS) / SWAP_WORDS) swaps number)

choose : (swaps w a v : ℕ) (none word low : Bool) → (w == 0) ≡ none → (v == BEGUN) ≡ word → nat_lt a SUPERBLOCK_WORDS ≡ low → TakesIf swaps w a v (if none || (not word || low) then None else taken_from swaps (a - SUPERBLOCK_WORDS))
choose swaps w a v true word low e f g = λ s lt. no_worker (w == 0) (a == swap_address s + SWAP_STATUS_AT && v == BEGUN) e
choose swaps w a v false false low e f g = λ s lt. no_begin (not (w == 0)) (a == swap_address s + SWAP_STATUS_AT) (v == BEGUN) f
choose swaps w a v false true true e f g =
    let below : a < SUPERBLOCK_WORDS = less_of a SUPERBLOCK_WORDS g in
    λ s lt. no_address (not (w == 0)) (a == swap_address s + SWAP_STATUS_AT) (v == BEGUN) (other_test a (swap_address s + SWAP_STATUS_AT) (λ h. omega (arith, below, h)))
choose swaps w a v false true false e f g = from_takes swaps w a v _ e f (not_less a SUPERBLOCK_WORDS g) refl

takes : (swaps w a v : ℕ) → TakesIf swaps w a v (taken_by swaps w a v)
takes swaps w a v = choose swaps w a v (w == 0) (v == BEGUN) (nat_lt a SUPERBLOCK_WORDS) refl refl refl

-- after a store
or_same : (b t : Bool) → b ≡ false → (b || t) ≡ t
or_same false t h = refl
or_same true t h = absurd (false_true (sym h))

or_true : (b t : Bool) → b ≡ true → (b || t) ≡ true
or_true true t h = refl
or_true false t h = absurd (false_true h)

set_same : (words : List ℕ) (x v : ℕ) → x < length words → slice_index (slice_set words x v) x ≡ v
set_same words x v lt = get_or-set_same words x v 0 lt

set_other : (words : List ℕ) (x v s : ℕ) → s ≢ x → slice_index (slice_set words x v) s ≡ slice_index words s
set_other words x v s ne = get_or-set_other words x s v 0 ne

at_least : (a b : ℕ) → nat_le a b ≡ false → b < a
at_least a b h = grind (arith, nat_tests)

at_most_of : (a b : ℕ) → nat_le a b ≡ true → a ≤ b
at_most_of a b h = grind (arith, nat_tests)

not_lt : (a b : ℕ) → b ≤ a → nat_lt a b ≡ false
not_lt a b le = grind (arith, nat_tests)

-- where none is taken, all stays
store_none : (c : Config) (past : List Mark) (w a v : ℕ) (k : Counted) → Counts c past k → ((s : ℕ) → s < c.swaps → begins w a v s ≡ false) → Counts c (Store w a v ∷ past) k
store_none c past w a v k h none = record {
  size = h.size;
  workers = h.workers;
  on = omega (arith, h.on);
  dated = λ s lt. omega (arith, h.dated s lt);
  shown = λ s lt. or_same (begins w a v s) (is_taken s (since_on past)) (none s lt) ∙ h.shown s lt;
  taken = h.taken ∙ sym (same-count (λ s. begins w a v s || is_taken s (since_on past)) (λ s. is_taken s (since_on past)) 0 c.swaps (λ s low high. or_same (begins w a v s) (is_taken s (since_on past)) (none s (omega (arith, high)))));
  pages = h.pages;
  within = record { taken = omega (arith, h.within.taken); pages = omega (arith, h.within.pages) };
}

-- how many are taken, where one is taken again or for the first time
count_takes : (c : Config) (past : List Mark) (w a v x : ℕ) (b : Bool) (k : Counted) → Counts c past k → Takes c.swaps w a v x → nat_le (slice_index k.begun x) k.on ≡ b
    → (if b then k.taken + 1 else k.taken) ≡ count_taken c (since_on (Store w a v ∷ past))
count_takes c past w a v x true k h t e =
    let late : slice_index k.begun x ≤ k.on = at_most_of (slice_index k.begun x) k.on e in
    let before : is_taken x (since_on past) ≡ false = h.shown x t.within ∙ not_lt k.on (slice_index k.begun x) late in
    let more : count_taken c (since_on (Store w a v ∷ past)) ≡ count_taken c (since_on past) + 1 =
    one-more (λ s. is_taken s (since_on past)) (λ s. begins w a v s || is_taken s (since_on past)) x c.swaps t.within before (or_true (begins w a v x) (is_taken x (since_on past)) t.here)
    (λ s ne. or_same (begins w a v s) (is_taken s (since_on past)) (t.others s ne)) in
    omega (arith, more, h.taken)
count_takes c past w a v x false k h t e =
    let late : k.on < slice_index k.begun x = at_least (slice_index k.begun x) k.on e in
    let before : is_taken x (since_on past) ≡ true = h.shown x t.within ∙ less_test k.on (slice_index k.begun x) late in
    h.taken ∙ sym (same-count (λ s. begins w a v s || is_taken s (since_on past)) (λ s. is_taken s (since_on past)) 0 c.swaps (λ s low high. elim (cases_eq s x) [
      | inl is ↦
          let there : is_taken s (since_on past) ≡ true = ap (λ (n : ℕ). is_taken n (since_on past)) is ∙ before in
          or_true (begins w a v s) (is_taken s (since_on past)) (ap (λ (n : ℕ). begins w a v n) is ∙ t.here) ∙ sym there
      | inr ne ↦ or_same (begins w a v s) (is_taken s (since_on past)) (t.others s ne)
    ]))

few_more : (b : Bool) (n m : ℕ) → n ≤ m → (if b then n + 1 else n) ≤ suc m
few_more true n m le = omega arith
few_more false n m le = omega arith

store_takes : (c : Config) (past : List Mark) (w a v x : ℕ) (k : Counted) → Counts c past k → Takes c.swaps w a v x → Counts c (Store w a v ∷ past) (with_taken k (length past) (Some x))
store_takes c past w a v x k h t =
    let lt : x < length k.begun = omega (arith, h.size, t.within) in
    record {
      size = length-set k.begun x (length past + 1) ∙ h.size;
      workers = h.workers;
      on = omega (arith, h.on);
      dated = λ s within. elim (cases_eq s x) [
        | inl e ↦ rw (e, set_same k.begun x (length past + 1) lt) (omega arith)
        | inr ne ↦ rw (set_other k.begun x (length past + 1) s ne) (omega (arith, h.dated s within))
      ];
      shown = λ s within. elim (cases_eq s x) [
        | inl e ↦
            let date : slice_index (slice_set k.begun x (length past + 1)) s ≡ length past + 1 = ap (λ (n : ℕ). slice_index (slice_set k.begun x (length past + 1)) n) e ∙ set_same k.begun x (length past + 1) lt in
            let here : begins w a v s ≡ true = ap (λ (n : ℕ). begins w a v n) e ∙ t.here in
            or_true (begins w a v s) (is_taken s (since_on past)) here ∙ sym (less_test k.on (slice_index (slice_set k.begun x (length past + 1)) s) (omega (arith, date, h.on)))
        | inr ne ↦ or_same (begins w a v s) (is_taken s (since_on past)) (t.others s ne) ∙ h.shown s within ∙ ap (λ (n : ℕ). nat_lt k.on n) (sym (set_other k.begun x (length past + 1) s ne))
      ];
      taken = count_takes c past w a v x _ k h t refl;
      pages = h.pages;
      within = record { taken = few_more _ k.taken (length past) h.within.taken; pages = omega (arith, h.within.pages) };
    }

store_by : (c : Config) (past : List Mark) (w a v : ℕ) (k : Counted) (o : Option ℕ) → Counts c past k → TakesIf c.swaps w a v o → Counts c (Store w a v ∷ past) (with_taken k (length past) o)
store_by c past w a v k None h t = store_none c past w a v k h t
store_by c past w a v k (Some x) h t = store_takes c past w a v x k h t

store_counts : (c : Config) (past : List Mark) (w a v : ℕ) (k : Counted) → Counts c past k → Counts c (Store w a v ∷ past) (with_taken k (length past) (taken_by (length k.begun) w a v))
store_counts c past w a v k h = store_by c past w a v k (taken_by (length k.begun) w a v) h (subst (λ (n : ℕ). TakesIf n w a v (taken_by (length k.begun) w a v)) h.size (takes (length k.begun) w a v))

-- after an End and after an On
end_counts : (c : Config) (past : List Mark) (w n at : ℕ) (reply : Reply) (k : Counted) → Counts c past k → Counts c (End w n reply at ∷ past) (with_reply k reply)
end_counts c past w n at (Page page next) k h = record {
  size = h.size;
  workers = h.workers;
  on = omega (arith, h.on);
  dated = λ s lt. omega (arith, h.dated s lt);
  shown = h.shown;
  taken = h.taken;
  pages = ap (λ (m : ℕ). m + 1) h.pages;
  within = record { taken = omega (arith, h.within.taken); pages = omega (arith, h.within.pages) };
}
end_counts c past w n at reply k h = record {
  size = h.size;
  workers = h.workers;
  on = omega (arith, h.on);
  dated = λ s lt. omega (arith, h.dated s lt);
  shown = h.shown;
  taken = h.taken;
  pages = h.pages;
  within = record { taken = omega (arith, h.within.taken); pages = omega (arith, h.within.pages) };
}

none_taken : (n : ℕ) → count_by (λ s. is_taken s []) (range_with_len 0 n) ≡ 0
none_taken n = sym (passing-count (λ s. is_taken s []) 0 n) ∙ none-passing (λ s. is_taken s []) 0 n (λ s. refl)

on_counts : (c : Config) (past : List Mark) (k : Counted) → Counts c past k → Counts c (On ∷ past) (record k { on = length past + 1; taken = 0 })
on_counts c past k h = record {
  size = h.size;
  workers = h.workers;
  on = omega arith;
  dated = λ s lt. omega (arith, h.dated s lt);
  shown = λ s lt. sym (not_lt (length past + 1) (slice_index k.begun s) (omega (arith, h.dated s lt)));
  taken = sym (none_taken c.swaps);
  pages = h.pages;
  within = record { taken = omega arith; pages = omega (arith, h.within.pages) };
}

-- a mark that is not counted
rests : (c : Config) (past : List Mark) (mark : Mark) (k : Counted) → Counts c past k → ((s : ℕ) → is_taken s (since_on (mark ∷ past)) ≡ is_taken s (since_on past)) → count_taken c (since_on past) ≡ count_taken c (since_on (mark ∷ past))
    → count_page_ends past ≡ count_page_ends (mark ∷ past) → Counts c (mark ∷ past) k
rests c past mark k h same count pages = record {
  size = h.size;
  workers = h.workers;
  on = omega (arith, h.on);
  dated = λ s lt. omega (arith, h.dated s lt);
  shown = λ s lt. same s ∙ h.shown s lt;
  taken = h.taken ∙ count;
  pages = h.pages ∙ pages;
  within = record { taken = omega (arith, h.within.taken); pages = omega (arith, h.within.pages) };
}

-- one mark more
pub counts_more : (c : Config) (past : List Mark) (mark : Mark) (k : Counted) → Counts c past k → Counts c (mark ∷ past) (counts_after k (length past) mark)
counts_more c past (Store w a v) k h = store_counts c past w a v k h
counts_more c past (End w n reply at) k h = end_counts c past w n at reply k h
counts_more c past On k h = on_counts c past k h
counts_more c past mark k h = rests c past mark k h (λ s. refl) refl refl

-- before any mark
none_begun : (n s : ℕ) → slice_index (replicate n 0) s ≡ 0
none_begun zero s = refl
none_begun (suc n) zero = refl
none_begun (suc n) (suc s) = none_begun n s

pub counts_none : (c : Config) → Counts c [] (no_counts c)
counts_none c = record {
  size = length-replicate {A = ℕ} c.swaps 0;
  workers = refl;
  on = omega arith;
  dated = λ s lt. rw (none_begun c.swaps s) (omega arith);
  shown = λ s lt. rw (none_begun c.swaps s) refl;
  taken = sym (none_taken c.swaps);
  pages = refl;
  within = record { taken = omega arith; pages = omega arith };
}

-- how things stand for the End of a worker's call
pub record Stands (c : Config) (past : List Mark) (w : ℕ) (here : Standing) : Type 0 where
  pub moment : here.moment ≡ length past
  pub page : here.page ≡ count_page_ends past
  pub spent : here.spent ≡ true ↔ c.swaps ≤ count_taken c (since_on past) + count_others c w past

mapped : (o : Option OpenCall) (opened : Option Open) → option_map open_of o ≡ opened → is_some o ≡ is_some opened
mapped None opened e = ap (λ (o : Option Open). is_some o) e
mapped (Some call) opened e = ap (λ (o : Option Open). is_some o) e

others_are : (c : Config) (at_start : Power) (past : List Mark) (t : Known) (w : ℕ) → IsConfig c → Knows at_start past t → others_in t c.workers w ≡ count_others c w past
others_are c at_start past t w config k = same-count (λ v. is_other_in t w v) (λ v. not (v == w) && is_some (open_call v past)) 1 c.workers
    (λ v low high. ap (λ (b : Bool). not (v == w) && b) (mapped (open_in t v) (open_call v past) (k.is_open v (omega (arith, high, config.workers_in_range.at_most)))))

most_both : (a b : ℕ) → nat_le a b ≡ true ↔ a ≤ b
most_both a b = (at_most_of a b, λ le. grind (arith, nat_tests))

pub stands_so : (c : Config) (at_start : Power) (past : List Mark) (t : Known) (k : Counted) (w : ℕ) → IsConfig c → Knows at_start past t → Counts c past k → Stands c past w (standing_in k t (length past) w)
stands_so c at_start past t k w config knows h =
    let held : k.taken + others_in t k.workers w ≡ count_taken c (since_on past) + count_others c w past =
    ap (λ (n : ℕ). n + others_in t k.workers w) h.taken ∙ ap (λ (n : ℕ). count_taken c (since_on past) + n) (ap (λ (n : ℕ). others_in t n w) h.workers ∙ others_are c at_start past t w config knows) in
    let test = most_both (length k.begun) (k.taken + others_in t k.workers w) in
    record {
      moment = refl;
      page = h.pages;
      spent = (
        λ is. subst (λ (n : ℕ). n ≤ count_taken c (since_on past) + count_others c w past) h.size (subst (λ (n : ℕ). length k.begun ≤ n) held (test.0 is)),
        λ le. test.1 (subst (λ (n : ℕ). length k.begun ≤ n) (sym held) (subst (λ (n : ℕ). n ≤ count_taken c (since_on past) + count_others c w past) (sym h.size) le)),
      );
    }
