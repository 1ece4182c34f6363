-- Over fresh memory all that a world keeps is true.
use Rattle.std.proofs.Common.{◌≡◌, ℕ, ◌+◌, ◌-◌, ◌<◌, Bool, true, false, if◌then◌else◌, nat_lt, List, [], length, replicate, slice_index, get_or, map, zero, suc, ◌∷◌, arith, refl, sym, ap, subst, ◌∙◌, inl, inr, Option, None}
use Rattle.std.proofs.lemmas.Bool.{cases_lt, true≢false}
use Rattle.std.proofs.lemmas.Bool.Decides.{nat_tests}
use Rattle.std.proofs.lemmas.List.{length-replicate, get_or-replicate, get_or_past}
use Rattle.std.proofs.lemmas.Cmp.{nat_list_cmp_total}
use Rattle.std.specs.Cmp.Lexicographic.{slice_cmp}
use Rattle.std.specs.FinMap.{empty, len, get-empty, len-empty, same_map, slice_cmp-IsAntisymmetric, nat_cmp-IsAntisymmetric}
use Rattle.std.specs.Ordering.{nat_cmp}
use Rattle.bz_call.specs.Map.{Map}
use Rattle.bz_swap_cells.specs.Store.{status_word, status_of}
use Rattle.bz_content.specs.Laws.{FreshMemoryIsEmpty, FreshMemoryReachesSlotZero}
use Rattle.bz_layout.specs.Addresses.{swap_address}
use Rattle.bz_layout.specs.Config.{IsConfig}
use Rattle.bz_layout.specs.Fresh.{FreshWordsSay, fresh_words}
use Rattle.bz_layout.specs.declared.config.Config.{Config}
use Rattle.bz_swap_machine.specs.declared.status.SwapStatus.TheVariants.{Free}
use Rattle.bz_swap_machine.specs.Machine.{is_succeeded}
use Rattle.bz_mark.specs.Log.{Log, count_begins, count_page_calls}
use Rattle.bz_sound.specs.Calls.{open_call, begun_calls, map_after}
use Rattle.bz_sound.specs.Memory.Moments.{map_at_start, HoldsMap}
use Rattle.bz_sound.specs.Power.Growth.{FreshJournalsAreSound}
use Rattle.bz_mark.specs.Counts.{is_taken}
use Rattle.bz_sound.specs.Memory.Spent.{is_stored_into}
use Rattle.bz_mark.specs.Times.{power_of, since_on}
use Rattle.bz_sound.specs.Power.Times.{image_at_on}
use Rattle.bz_mark.specs.declared.power.Power.{Power}
use Rattle.bz_mark.specs.declared.power.Power.TheVariants as power
use Rattle.bz_sound.specs.Power.Sound.{IsSound}
use Rattle.bz_refinement.specs.Living.{IsLiving}
use Rattle.bz_refinement.specs.Opening.{FreshStoriesLive, fresh_story}
use Rattle.bz_swap.specs.Power.{opened}
use Rattle.bz_swap.specs.SwapMemory.{SwapMemory, Working, Idle, idle, doing_of, has_effect}
use Rattle.bz_swap.specs.TakenStatuses.{BegunAreTaken}
use Rattle.bz_swap.specs.declared.phase.Phase.{Phase}
use Rattle.bz_world.specs.Inside.Beginning.{world_view, supply_of, is_swap}
use Rattle.bz_world.proofs.Solitary.{none-in}
use Rattle.bz_world.proofs.Powered.{kept-awake}
use Rattle.bz_world.proofs.FreshSlots.{free-below, free-root, free-others}
use Rattle.bz_world.specs.Inside.Kept.{IsTabled, KeepsNotes, AreTaken, AreFree, IsAwake, IsKept}
use Rattle.bz_world.specs.Inside.Laws.{BegunLaws}
use Rattle.bz_world.specs.Inside.Opening.{fresh_slots, IsMadeOver}
use Rattle.bz_world.specs.Inside.Paid.{stock_of}
use Rattle.bz_world.specs.Leaves.{AreLeavesKept}
use Rattle.bz_world.specs.WorldView.{Supply, supply_by, new_view, view_over}
use Rattle.bz_world.specs.Inside.Serving.{IsSlot, IsAtRest}
use Rattle.bz_world.specs.declared.parts.Parts.{Parts}
use Rattle.bz_world.specs.declared.serving.OpenCall.{OpenCall}

-- the laws that these proofs stand on
pub record Laws : Type 0 where
  pub says : FreshWordsSay
  pub empty : FreshMemoryIsEmpty
  pub reaches : FreshMemoryReachesSlotZero
  pub begun : BegunLaws
  pub sound : FreshJournalsAreSound
  pub living : FreshStoriesLive

pub same-everywhere : {A : Type 0} (n w : ℕ) (x : A) → get_or (replicate n x) w x ≡ x
same-everywhere n w x = elim (cases_lt w n) [
  | inl l ↦ get_or-replicate n w x x l
  | inr l ↦ get_or_past (replicate n x) w x (omega (arith, l, length-replicate n x))
]

module _ (b : Laws) (c : Config) (config : IsConfig c) where
  abbrev log : Log
  log = (new_view c).log

  abbrev first : Phase → SwapMemory
  first phase = opened phase (fresh_words c) c.swaps c.workers

  -- nobody does anything
  idle-all : (phase : Phase) (w : ℕ) → doing_of (first phase) w ≡ Idle
  idle-all phase w = ap (λ (x : Working). x.doing) (same-everywhere (c.workers + 1) w idle)

  at-rest : (phase : Phase) (w : ℕ) → IsAtRest (first phase) log (fresh_story c) w
  at-rest phase w = record { none_open = refl; idle = idle-all phase w; filled = λ k e. absurd (true≢false (sym e)) }

  -- no descriptor is taken
  untaken : (s : ℕ) → slice_index (fresh_words c) (swap_address s) ≡ status_word Free
  untaken s = (b.says c).rest (swap_address s) (omega arith)

  no-effect : (s : ℕ) (z : Bool) → is_succeeded (if z then status_of (slice_index (fresh_words c) (swap_address s)) else Free) ≡ false
  unfolding status_of
  no-effect s true = ap (λ v. is_succeeded (status_of v)) (untaken s)
  no-effect s false = refl

  sound : IsSound c power.On log
  sound = b.sound c power.On (fresh_words c) log.limits (b.says c).size (b.empty c config).0

  -- the map is empty
  pub no-pairs : len (map_at_start c (fresh_words c)) ≡ 0
  no-pairs =
      let holds : HoldsMap c (slice_index (fresh_words c)) (map_at_start c (fresh_words c)) = sound.durable 0 (omega arith) (λ inner. absurd (omega (arith, inner.0))) in
      ap (λ (m : Map). len m) (same_map nat_list_cmp_total (slice_cmp-IsAntisymmetric nat_cmp-IsAntisymmetric) (map_at_start c (fresh_words c)) empty
      (λ key. sym (holds.content key) ∙ ((b.empty c config).1 key ∙ sym (get-empty (slice_cmp nat_cmp) key)))) ∙ len-empty (slice_cmp nat_cmp) (List ℕ)

-- slot 0 is reached, and the others are free
free-fresh : Laws → (c : Config) → IsConfig c → AreFree c (slice_index (fresh_words c)) (fresh_slots c) (fresh_story c).took
free-fresh b c config = record {
  nodes = refl;
  within = λ k h. free-below c.nodes k h;
  fresh = λ k h. rw (below k (free-below c.nodes k h), b.reaches c k config (free-below c.nodes k h), free-root c.nodes k h) refl;
  untaken = λ v k h. refl;
  others = λ k l h. inl (rw (below k l, b.reaches c k config l, free-others c.nodes k l h) refl);
}
  where
    below : (k : ℕ) → k < c.nodes → nat_lt k c.nodes ≡ true
    below k l = grind (arith, nat_tests)

pub tabled : (start : List ℕ) (at_start : Power) (p : Parts) → IsMadeOver start at_start p → IsTabled p
tabled start at_start p made = record {
  config = made.config;
  limits = ap (λ (l : Log). l.limits) made.journal;
  marks = omega (arith, no-marks);
  places = ap length made.workers ∙ length-replicate {A = Option OpenCall} 65 None;
  number_places = ap length made.numbers ∙ length-replicate {A = ℕ} 65 0;
  owner_places = ap length made.owners ∙ length-replicate {A = ℕ} p.config.swaps 0;
  crew = ap (λ (m : SwapMemory). length m.workers) made.opened.is ∙ length-replicate {A = Working} (p.config.workers + 1) idle;
  counted = λ w l. ap (λ xs. slice_index xs w) made.numbers ∙ (get_or-replicate {A = ℕ} 65 w 0 0 l ∙ ap (begun_calls w) (sym past));
  strangers = λ w o. ap (open_call w) past;
  begins = made.begun ∙ ap count_begins (sym past);
  few_begins = omega (arith, made.begun);
  page_calls = made.pages_begun ∙ ap count_page_calls (sym past);
  few_page_calls = omega (arith, made.pages_begun);
  steps = omega (arith, ap (λ (m : SwapMemory). m.steps) made.opened.is);
  pairs = record { size = made.pairs ∙ ap (λ (l : Log). len (map_after (map_at_start p.config l.start) l.past)) (sym made.journal); few = omega (arith, made.few_pairs) };
  power = ap (λ (s : Power). power_of s p.journal.past) made.at_start ∙ (ap (power_of at_start) past ∙ sym made.power);
}
  where
    past : p.journal.past ≡ []
    past = ap (λ (l : Log). l.past) made.journal

    no-marks : length p.journal.past ≡ 0
    no-marks = ap length past

taken : Laws → (p : Parts) → IsMadeOver (fresh_words p.config) power.On p → AreTaken p
taken b p made = record {
  shown = λ s l t. absurd (t (ap (λ (m : SwapMemory). slice_index m.cached (swap_address s)) made.opened.is ∙ untaken b p.config made.config s));
  held = subst BegunAreTaken (sym made.opened.is) (b.begun.taken.opening made.opened.phase (fresh_words p.config) p.config.swaps p.config.workers);
  few = omega (arith, ap (λ (m : SwapMemory). m.taken) made.opened.is);
  notes = subst KeepsNotes (sym made.opened.is) (record {
    zero = b.begun.zero.opening made.opened.phase (fresh_words p.config) p.config.swaps p.config.workers;
    noted = b.begun.noted.opening made.opened.phase (fresh_words p.config) p.config.swaps p.config.workers;
  });
  unused = λ s l. ap (λ (m : SwapMemory). has_effect m s) made.opened.is ∙ no-effect b p.config made.config s (nat_lt s p.config.swaps);
  only = λ s l seen. absurd (true≢false (sym seen ∙ ap (λ (j : Log). is_taken s (since_on j.past)) made.journal));
  unstored = λ k free. ap (λ (j : Log). is_stored_into p.config k (since_on j.past)) made.journal;
}

kept-open : Laws → (p : Parts) → IsMadeOver (fresh_words p.config) power.On p → p.slots ≡ fresh_slots p.config → IsAwake p
kept-open b p made slots = record {
  on = made.power;
  story = fresh_story p.config;
  tabled = tabled (fresh_words p.config) power.On p made;
  taken = taken b p made;
  living = subst (λ l. IsLiving p.config p.access l (fresh_story p.config)) (sym made.journal) (b.living p.config p.access ((new_view p.config).log.limits) (record { config = made.config; opened = made.opened; holds = made.holds }));
  sound = subst (λ (s : Power). IsSound p.config s p.journal) (sym made.at_start) (subst (IsSound p.config power.On) (sym made.journal) (sound b p.config made.config));
  leaves = subst (λ (l : Log). AreLeavesKept p.config p.at_start l) (sym made.journal) tt;
  free = subst (λ log. AreFree p.config (image_at_on log.start log.past) p.slots (fresh_story p.config).took) (sym made.journal) (subst (λ free. AreFree p.config (slice_index (fresh_words p.config)) free (fresh_story p.config).took) (sym slots) (free-fresh b p.config made.config));
  workers = λ w. subst (λ xs. IsSlot p.config p.access p.journal (fresh_story p.config) p.owners.items (stock_of p) w (get_or xs w None)) (sym made.workers) (rest w (get_or (replicate 65 None) w None) (same-everywhere 65 w None));
  solitary = λ w. none-in p.access p.journal.past (fresh_story p.config) p.workers.items w (ap (λ xs. get_or xs w None) made.workers ∙ same-everywhere 65 w None);
}
  where
    rest : (w : ℕ) (entry : Option OpenCall) → entry ≡ None → IsSlot p.config p.access p.journal (fresh_story p.config) p.owners.items (stock_of p) w entry
    rest w entry e = subst (IsSlot p.config p.access p.journal (fresh_story p.config) p.owners.items (stock_of p) w) (sym e)
        (subst (λ m. IsAtRest m p.journal (fresh_story p.config) w) (sym made.opened.is) (subst (λ l. IsAtRest (opened made.opened.phase (fresh_words p.config) p.config.swaps p.config.workers) l (fresh_story p.config) w) (sym made.journal) (at-rest b p.config made.config made.opened.phase w)))

-- over fresh memory a world is kept
pub kept-fresh : Laws → (c : Config) (start : List ℕ) (p : Parts) → start ≡ fresh_words c → p.config ≡ c → p.slots ≡ fresh_slots c → IsMadeOver start power.On p → IsKept p
kept-fresh b c start p fresh config slots made =
    kept-awake p (kept-open b p (subst (λ words. IsMadeOver words power.On p) (fresh ∙ ap fresh_words (sym config)) made) (slots ∙ ap fresh_slots (sym config)))

-- the journal that is opened
pub opened-journal : (j : Log) (start : List ℕ) (at_start : Power) (c : Config) → j.start ≡ start → j.past ≡ [] → j.pages ≡ [] → j.limits ≡ record { marks = c.marks; calls = c.calls; pages = c.pages }
    → j ≡ (view_over c start at_start).log
opened-journal j start at_start c same past pages limits = λ t. record { start = same t; past = past t; pages = pages t; limits = limits t }

-- no worker's next act is a fence
pub map-replicate : {A : Type 0} {B : Type 0} (f : A → B) (n : ℕ) (x : A) → map f (replicate n x) ≡ replicate n (f x)
map-replicate f zero x = refl
map-replicate f (suc n) x = ap (λ xs. f x ∷ xs) (map-replicate f n x)

-- so it is seen
pub lab-made : (c : Config) (start : List ℕ) (at_start : Power) (p : Parts) → p.config ≡ c → IsMadeOver start at_start p → (at_start ≡ power.On → length p.slots.free ≡ p.config.nodes - 1) → world_view p ≡ view_over c start at_start
lab-made c start at_start p config made left =
    (λ t. record { config = p.config; at_start = made.at_start t; log = made.journal t; flushes = flushes t; swapping = swapping t; left_out = made.left_out t; supply = supply t; at_begin = made.at_begin t }) ∙ ap (λ (d : Config). view_over d start at_start) config
  where
    flushes : map (λ (v : Working). v.flush_next) p.access.workers ≡ replicate (p.config.workers + 1) false
    flushes = ap (λ (m : SwapMemory). map (λ (v : Working). v.flush_next) m.workers) made.opened.is ∙ map-replicate (λ (v : Working). v.flush_next) (p.config.workers + 1) idle

    swapping : map (λ (v : Working). is_swap v.doing) p.access.workers ≡ replicate (p.config.workers + 1) false
    swapping = ap (λ (m : SwapMemory). map (λ (v : Working). is_swap v.doing) m.workers) made.opened.is ∙ map-replicate (λ (v : Working). is_swap v.doing) (p.config.workers + 1) idle

    at_first : Supply
    at_first = record { taken = 0; left = p.config.nodes - 1 }

    by_power : (z : Power) → (z ≡ power.On → length p.slots.free ≡ p.config.nodes - 1) → supply_by z (supply_of p) ≡ supply_by z at_first
    by_power power.On is = (λ t. record { taken = taken t; left = is refl t })
      where
        taken : p.access.taken ≡ 0
        taken = ap (λ (m : SwapMemory). m.taken) made.opened.is
    by_power power.Off is = refl
    by_power power.Recovering is = refl

    supply : supply_by p.power (supply_of p) ≡ supply_by at_start at_first
    supply = ap (λ z. supply_by z (supply_of p)) made.power ∙ by_power at_start left
