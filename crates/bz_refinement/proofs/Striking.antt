-- The effect of a swap: what it is to its worker and to the others, and that the memory lives on.
use Rattle.std.proofs.Common.{◌≡◌, ◌≢◌, ℕ, suc, ◌+◌, ◌<◌, ◌≤◌, ◌⊎◌, ◌||◌, ◌&&◌, ◌==◌, Bool, true, false, List, [], ◌∷◌, length, slice_index, arith, refl, sym, ap, subst, ◌∙◌, inl, inr}
use Rattle.std.specs.Prelude.{All, nat_le, nat_lt, is_some}
use Rattle.std.proofs.lemmas.Bool.{cases_eq, true≢false}
use Rattle.std.proofs.lemmas.Bool.Decides.{nat_tests}
use Rattle.bz_layout.specs.Addresses.{node_address, slot_of, line_of, node_word_of}
use Rattle.bz_layout.specs.declared.config.Config.{Config}
use Rattle.bz_layout.specs.declared.sizes.TheConstants.{NODE_WORDS, STATUS_AT}
use Rattle.bz_layout.proofs.Laws.{slots_apart}
use Rattle.bz_content.specs.Image.{node}
use Rattle.bz_mark.specs.Log.{Log, with_mark}
use Rattle.bz_mark.specs.declared.marks.Mark.{Mark}
use Rattle.bz_sight.specs.Effects.{TookPlace, KeepsOwn, effect_instant}
use Rattle.bz_sight.specs.Sight.{IsSeen}
use Rattle.bz_sight.specs.Starts.{Sees}
use Rattle.bz_sight.proofs.Proved.{effects_keep_own, effects_take_place}
use Rattle.bz_sound.specs.Calls.{Open}
use Rattle.bz_sound.specs.Memory.Spent.{is_reached_in}
use Rattle.bz_sound.specs.Power.Times.{image_at_on}
use Rattle.bz_swap.specs.EntryLists.{AreRising}
use Rattle.bz_swap.specs.SwapMemory.{SwapMemory, Flushing, entries_of, is_among, is_named, is_target, doing_of}
use Rattle.bz_task.specs.Instant.{Instant, IsDurableAt, words, page_at}
use Rattle.bz_task.specs.Others.{AreApart, Watches}
use Rattle.bz_task.specs.Requests.{IsTarget}
use Rattle.bz_task.specs.Scene.{Scene, IsMine, IsLawful, here}
use Rattle.bz_task.specs.Swaps.{Change, SwapsTo, ShowsSettled, Takes, swapped, grows_over, reserves}
use Rattle.bz_task.proofs.Proved.{good_swaps_show_settled, effects_are_lawful}
use Rattle.bz_word.specs.Statuses.{status}
use Rattle.bz_word.specs.declared.entry.Entry.{Entry}
use Rattle.bz_refinement.specs.Laws.{HasBegun, Strikes, EffectsAreTold, strikes, opened_after}
use Rattle.bz_refinement.specs.Living.{IsLiving, IsInBlock, IsHeldBy}
use Rattle.bz_refinement.specs.Story.{Story, scene, and_then}
use Rattle.bz_refinement.proofs.Awaiting.{held-outside}
use Rattle.bz_refinement.proofs.Lives.{history-on, images-on, step-block}
use Rattle.bz_refinement.proofs.Scenes.{now-is, before-is, scenes-apart, scenes-seen}
use Rattle.bz_refinement.proofs.Powered.{begins-more, image-as-it-was, stored-since}
use Rattle.bz_refinement.proofs.Watching.{continues}

-- what is reached in neither way was not reached before
or-none : (was now : Bool) → was || now ≡ false → was ≡ false
or-none true now e = absurd cc
or-none false now e = refl

and-both : (a b : Bool) → (a && b) ≡ true → (a ≡ true) × (b ≡ true)
and-both true b e = (refl, e)
and-both false b e = absurd (cc)

-- what it is for an entry to reserve an address: it is one of a node's status, whose block comes to hold it
record Reserving (c : Config) (a : ℕ) (e : Entry) : Type 0 where
  from : node_address c 0 ≤ a
  target : e.target ≡ node_address c (slot_of c a) + STATUS_AT
  held : NODE_WORDS ≤ node_word_of c a + (status e.new).block
  free : node_word_of c a + (status e.expected).block < NODE_WORDS

reserving : (c : Config) (a : ℕ) (e : Entry) → grows_over c e a ≡ true → Reserving c a e
reserving c a e h =
    let p = and-both (nat_le (node_address c 0) a) _ h in
    let q = and-both (e.target == node_address c (slot_of c a) + STATUS_AT) _ p.1 in
    let r = and-both (nat_le NODE_WORDS (node_word_of c a + (status e.new).block)) (nat_lt (node_word_of c a + (status e.expected).block) NODE_WORDS) q.1 in
    let p0 = p.0 in
    let q0 = q.0 in
    let r0 = r.0 in
    let r1 = r.1 in
    record {
      from = grind (arith, nat_tests);
      target = grind (arith, nat_tests);
      held = grind (arith, nat_tests);
      free = grind (arith, nat_tests);
    }

-- the entry of a swap by which it reserves an address: it is the first one of its target
record HasReserving (c : Config) (a : ℕ) (es : List Entry) (f : ℕ → ℕ) : Type 0 where
  entry : Entry
  reserves : Reserving c a entry
  target : is_target es entry.target ≡ true
  new : swapped es f entry.target ≡ entry.new
  expected : f entry.target ≡ entry.expected
  above : (n : ℕ) → All (λ (z : Entry). n < z.target) es → n < entry.target

all-head : {A : Type 0} (P : A → Type 0) (x : A) (xs : List A) → All P (x ∷ xs) → P x
all-head P x xs h = h 0 x (omega arith)

all-tail : {A : Type 0} (P : A → Type 0) (x : A) (xs : List A) → All P (x ∷ xs) → All P xs
all-tail P x xs h = λ i d l. h (suc i) d (omega (arith, l))

head-reserving : (c : Config) (a : ℕ) (e : Entry) (es : List Entry) (f : ℕ → ℕ) → grows_over c e a ≡ true → f e.target ≡ e.expected → HasReserving c a (e ∷ es) f
head-reserving c a e es f h expected = record {
  entry = e;
  reserves = reserving c a e h;
  target = let t : (e.target == e.target) ≡ true = grind (arith, nat_tests) in rw t refl;
  new = let t : (e.target == e.target) ≡ true = grind (arith, nat_tests) in rw t refl;
  expected = expected;
  above = λ n all. all-head (λ (z : Entry). n < z.target) e es all;
}

tail-reserving : (c : Config) (a : ℕ) (e : Entry) (es : List Entry) (f : ℕ → ℕ) → All (λ (z : Entry). e.target < z.target) es → HasReserving c a es f → HasReserving c a (e ∷ es) f
tail-reserving c a e es f rising r =
    let above : e.target < r.entry.target = r.above e.target rising in
    let t : (e.target == r.entry.target) ≡ false = grind (arith, nat_tests) in record {
      entry = r.entry;
      reserves = r.reserves;
      target = rw t r.target;
      new = rw t r.new;
      expected = r.expected;
      above = λ n all. r.above n (all-tail (λ (z : Entry). n < z.target) e es all);
    }

has-reserving : (c : Config) (a : ℕ) (es : List Entry) (f : ℕ → ℕ) → AreRising es → All (λ (e : Entry). f e.target ≡ e.expected) es → reserves c es a ≡ true → HasReserving c a es f
has-reserving c a [] f rising stand h = absurd (cc)
has-reserving c a (e ∷ es) f rising stand h =
    go (grows_over c e a) refl h (λ rest. tail-reserving c a e es f rising.0 (has-reserving c a es f rising.1 (all-tail (λ (z : Entry). f z.target ≡ z.expected) e es stand) rest))
  where
    go : (t : Bool) → grows_over c e a ≡ t → t || reserves c es a ≡ true → (reserves c es a ≡ true → HasReserving c a (e ∷ es) f) → HasReserving c a (e ∷ es) f
    go true q i rest = head-reserving c a e es f q (all-head (λ (z : Entry). f z.target ≡ z.expected) e es stand)
    go false q i rest = rest i

node-at : (c : Config) (f : ℕ → ℕ) (k i : ℕ) → i < NODE_WORDS → node c f k i ≡ f (node_address c k + i)
unfolding node
node-at c f k i l = let t : nat_lt i NODE_WORDS ≡ true = grind (arith, nat_tests) in rw t refl

-- an address from the first slot on is a word of its slot
in-its-slot : (c : Config) (a : ℕ) → node_address c 0 ≤ a → (a ≡ node_address c (slot_of c a) + node_word_of c a) × (node_word_of c a < NODE_WORDS)
in-its-slot c a from = (omega (arith, from), omega arith)

module _ (c : Config) (old new : SwapMemory) (log : Log) (story : Story) (mark : Mark) (k w since : ℕ) (opened : Open) (publishes : Bool) (change : Change) (g : Strikes c old new log story mark k w since opened publishes change) where
  abbrev x : Instant
  x = story.at (length log.past)

  abbrev y : Instant
  y = effect_instant c new (story.at (length log.past))

  abbrev s : Scene
  s = scene c log.past story w since opened

  sees : (v other_since : ℕ) (other : Open) → HasBegun log story other_since → Sees c (story.at (length log.past)) (scene c log.past story v other_since other)
  sees v other_since other begun = scenes-seen c old log story v other_since other g.living begun

  took : TookPlace c (story.at (length log.past)) old new k
  took = effects_take_place c (story.at (length log.past)) old new k g.living.seen g.takes

  to : SwapsTo c (entries_of old k) (story.at (length log.past)) (effect_instant c new (story.at (length log.past)))
  to = took.swaps (omega (arith, g.living.effects, g.few))

  keeps : KeepsOwn (scene c log.past story w since opened) (effect_instant c new (story.at (length log.past)))
  keeps = effects_keep_own c (story.at (length log.past)) old new k (scene c log.past story w since opened) g.living.seen g.takes (sees w since opened g.begun).scene refl refl

  before : (m : ℕ) → m ≤ length log.past → (strikes c log story new w (entries_of old k)).at m ≡ story.at m
  before m l = before-is story.at (length log.past) m (effect_instant c new (story.at (length log.past))) l

  later-here : (v other_since : ℕ) (other : Open) → here (scene c (mark ∷ log.past) (strikes c log story new w (entries_of old k)) v other_since other) ≡ effect_instant c new (story.at (length log.past))
  later-here v other_since other = now-is story.at (length log.past) (effect_instant c new (story.at (length log.past)))

  effect-own : (moment : ℕ) → Takes publishes (entries_of old k) (scene c log.past story w since opened) (scene c (mark ∷ log.past) (strikes c log story new w (entries_of old k)) w since (opened_after publishes moment opened))
  effect-own moment = record {
    continues = continues c log.past mark story (strikes c log story new w (entries_of old k)) w since opened (opened_after publishes moment opened) before;
    took = λ j. refl;
    swaps = subst (SwapsTo c (entries_of old k) (story.at (length log.past))) (sym (later-here w since (opened_after publishes moment opened))) to;
    effected = same-effected publishes;
    reserved = λ a. let t : (w == w) ≡ true = grind (arith, nat_tests) in rw t refl;
    filled = λ j. refl;
    keeps = λ a mine. ap (λ z. z.value a) (later-here w since (opened_after publishes moment opened)) ∙ keeps.value a mine;
    flushed = λ a mine f. subst (λ z. IsDurableAt z a) (sym (later-here w since (opened_after publishes moment opened))) (keeps.flushed a mine f);
  }
    where
      same-effected : (p : Bool) → is_some (opened_after p moment opened).effect ≡ p || is_some opened.effect
      same-effected true = refl
      same-effected false = refl

  effect-others : (v other_since : ℕ) (other : Open) → v ≢ w → HasBegun log story other_since → IsLawful (scene c log.past story v other_since other) (scene c (mark ∷ log.past) (strikes c log story new w (entries_of old k)) v other_since other)
  effect-others v other_since other ne begun =
      effects_are_lawful publishes change (entries_of old k) (scene c log.past story w since opened) (scene c log.past story v other_since other) _ (effect_instant c new (story.at (length log.past))) (sees v other_since other begun).scene apart to g.good watches
    where
      apart : AreApart (scene c log.past story w since opened) (scene c log.past story v other_since other)
      apart = scenes-apart c old log story w v since other_since opened other g.living (λ e. ne (sym e))

      or-off : (t : Bool) → t || false ≡ t
      or-off true = refl
      or-off false = refl

      watches : Watches (scene c log.past story v other_since other) (scene c (mark ∷ log.past) (strikes c log story new w (entries_of old k)) v other_since other) (effect_instant c new (story.at (length log.past)))
      watches = record {
        continues = continues c log.past mark story (strikes c log story new w (entries_of old k)) v other_since other other before;
        here = later-here v other_since other;
        effected = refl;
        reserved = λ a. let t : (v == w) ≡ false = grind (arith, nat_tests) in rw t (or-off (story.reserved v a));
        took = λ j. refl;
        filled = λ j. refl;
      }

  -- what the swap reserves
  found : (a : ℕ) → reserves c (entries_of old k) a ≡ true → HasReserving c a (entries_of old k) (story.at (length log.past)).value
  found a h = has-reserving c a (entries_of old k) (story.at (length log.past)).value g.list.rising took.stand h

  -- its node has been reached
  its-slot : (a : ℕ) (r : HasReserving c a (entries_of old k) (story.at (length log.past)).value) → (story.at (length log.past)).reached (slot_of c a) ≡ true
  its-slot a r = go (g.good.targets r.entry.target r.target)
    where
      go : IsTarget (scene c log.past story w since opened) r.entry.target → (story.at (length log.past)).reached (slot_of c a) ≡ true
      go (inl e) = absurd (omega (arith, e, r.reserves.target))
      go (inr (inl e)) = absurd (omega (arith, e, r.reserves.target))
      go (inr (inr t)) =
          let same : (slot_of c a ≡ t.slot) × (STATUS_AT ≡ t.place) = slots_apart c (slot_of c a) t.slot STATUS_AT t.place (omega arith) t.within (sym r.reserves.target ∙ t.address) in
          subst (λ j. (story.at (length log.past)).reached j ≡ true) (sym same.0) t.reached

  now-block : (a : ℕ) → reserves c (entries_of old k) a ≡ true → IsInBlock c (effect_instant c new (story.at (length log.past))) a
  now-block a h =
      let r : HasReserving c a (entries_of old k) (story.at (length log.past)).value = found a h in
      let place : (a ≡ node_address c (slot_of c a) + node_word_of c a) × (node_word_of c a < NODE_WORDS) = in-its-slot c a r.reserves.from in
      let word : words c (effect_instant c new (story.at (length log.past))) (slot_of c a) STATUS_AT ≡ r.entry.new =
      node-at c (effect_instant c new (story.at (length log.past))).value (slot_of c a) STATUS_AT (omega arith)
      ∙ (ap (effect_instant c new (story.at (length log.past))).value (sym r.reserves.target) ∙ (to.value r.entry.target ∙ r.new)) in
      record {
        slot = slot_of c a;
        place = node_word_of c a;
        address = place.0;
        within = place.1;
        reached = g.good.step.reached (slot_of c a) (its-slot a r);
        block = subst (λ z. NODE_WORDS ≤ node_word_of c a + (status z).block) (sym word) r.reserves.held;
      }

  -- nobody had reserved it before
  was-free : (v a : ℕ) → reserves c (entries_of old k) a ≡ true → story.reserved v a ≡ true → ⊥
  was-free v a h o =
      let r : HasReserving c a (entries_of old k) (story.at (length log.past)).value = found a h in
      let place : (a ≡ node_address c (slot_of c a) + node_word_of c a) × (node_word_of c a < NODE_WORDS) = in-its-slot c a r.reserves.from in
      let block : IsInBlock c (story.at (length log.past)) a = g.living.reserved v a o in
      let same : (slot_of c a ≡ block.slot) × (node_word_of c a ≡ block.place) = slots_apart c (slot_of c a) block.slot (node_word_of c a) block.place place.1 block.within (sym place.0 ∙ block.address) in
      let word : words c (story.at (length log.past)) (slot_of c a) STATUS_AT ≡ r.entry.expected =
      node-at c (story.at (length log.past)).value (slot_of c a) STATUS_AT (omega arith) ∙ (ap (story.at (length log.past)).value (sym r.reserves.target) ∙ r.expected) in
      let held : NODE_WORDS ≤ node_word_of c a + (page_at c (story.at (length log.past)) (slot_of c a)).block =
      subst (λ j. NODE_WORDS ≤ node_word_of c a + (page_at c (story.at (length log.past)) j).block) (sym same.0) (omega (arith, block.block, same.1)) in
      omega (arith, held, r.reserves.free, ap (λ z. (status z).block) word)

  -- a slot to which a link leads now and had not led was the worker's own
  linked-took : (j : ℕ) → (story.at (length log.past)).reached j ≡ false → (effect_instant c new (story.at (length log.past))).reached j ≡ true → story.took w j ≡ true
  linked-took j was is =
      let mine : IsMine (scene c log.past story w since opened) (node_address c j + 0) = g.good.linked j 0 was is (omega arith) in
      elim mine.own [
        | inl o ↦ subst (λ i. story.took w i ≡ true) (sym (slots_apart c j o.slot 0 o.place (omega arith) o.within o.address).0) o.took
        | inr r ↦ absurd (
            let block : IsInBlock c (story.at (length log.past)) (node_address c j + 0) = g.living.reserved w (node_address c j + 0) r in
            let same : j ≡ block.slot = (slots_apart c j block.slot 0 block.place (omega arith) block.within block.address).0 in
            true≢false (sym block.reached ∙ (ap (story.at (length log.past)).reached (sym same) ∙ was)))
      ]

  came-of : (j : ℕ) → (effect_instant c new (story.at (length log.past))).reached j ≡ true → (is_reached_in c (image_at_on log.start log.past) j ≡ true) ⊎ ((v : ℕ) × (story.took v j ≡ true))
  came-of j is = go ((story.at (length log.past)).reached j) refl
    where
      go : (t : Bool) → (story.at (length log.past)).reached j ≡ t → (is_reached_in c (image_at_on log.start log.past) j ≡ true) ⊎ ((v : ℕ) × (story.took v j ≡ true))
      go true e = g.living.came j e
      go false e = inr (w, linked-took j e is)

  effect-living : IsLiving c new (with_mark log mark) (strikes c log story new w (entries_of old k))
  effect-living = record {
    from = omega (arith, g.living.from);
    begins = begins-more story.from log.past mark g.living.from g.living.begins;
    seen = subst (IsSeen c new) (sym (now-is story.at (length log.past) (effect_instant c new (story.at (length log.past))))) (took.seen g.good.good (inr g.good.step) shows);
    history = history-on c story.at story.from (length log.past) (effect_instant c new (story.at (length log.past))) g.living.history g.good.good (inr g.good.step);
    words = g.marked;
    past = g.past;
    images = images-on log.start log.past mark story.at story.from (effect_instant c new (story.at (length log.past))) g.living.images (ap (λ z. slice_index z.durable) g.marked);
    effects = subst (λ z. story.from + z.effects ≤ suc (length log.past)) (sym (now-is story.at (length log.past) (effect_instant c new (story.at (length log.past))))) (omega (arith, g.living.effects));
    reserved = λ v a o. subst (λ z. IsInBlock c z a) (sym (now-is story.at (length log.past) (effect_instant c new (story.at (length log.past))))) (block-of v a (reserved-of v a o));
    apart = λ u v a o p. apart-of u v a (reserved-of u a o) (reserved-of v a p);
    took = g.living.took;
    took_apart = g.living.took_apart;
    awaits = λ v a held private fence. elim (cases_eq v w) [
      | inl is ↦ absurd (g.at_swap (line_of a) (subst (λ z. doing_of new z ≡ Flushing (line_of a)) is fence.doing))
      | inr other ↦ g.takes.awaits v a (g.takes.cached a (held-outside c old log story g.living v a (before v a other held)) (was-private a private)) (g.living.awaits v a (before v a other held) (was-private a private)) fence
    ];
    came = λ j r. subst (λ (image : ℕ → ℕ). (is_reached_in c image j ≡ true) ⊎ ((v : ℕ) × (story.took v j ≡ true))) (sym (image-as-it-was log.start log.past mark g.powered))
        (came-of j (subst (λ z. z.reached j ≡ true) (now-is story.at (length log.past) (effect_instant c new (story.at (length log.past)))) r));
    stored = λ v j f. stored-since c log.past mark j g.powered (g.living.stored v j f);
  }
    where
      shows : ShowsSettled c (story.at (length log.past)) (effect_instant c new (story.at (length log.past)))
      shows = good_swaps_show_settled publishes change (entries_of old k) (scene c log.past story w since opened) (effect_instant c new (story.at (length log.past))) g.good

      -- an address that a worker has reserved afterwards it had reserved before, or the swap is its own and reserves it
      reserved-of : (v a : ℕ) → story.reserved v a || (v == w && reserves c (entries_of old k) a) ≡ true → (story.reserved v a ≡ true) ⊎ ((v ≡ w) × (reserves c (entries_of old k) a ≡ true))
      reserved-of v a o = go (story.reserved v a) refl o
        where
          go : (t : Bool) → story.reserved v a ≡ t → t || (v == w && reserves c (entries_of old k) a) ≡ true → (story.reserved v a ≡ true) ⊎ ((v ≡ w) × (reserves c (entries_of old k) a ≡ true))
          go true e h = inl e
          go false e h = let q = and-both (v == w) (reserves c (entries_of old k) a) h in let q0 = q.0 in inr (grind (arith, nat_tests), q.1)

      -- another worker held before what it holds, and what is private was so
      before : (v a : ℕ) → v ≢ w → IsHeldBy c (and_then story.at (length log.past) (effect_instant c new (story.at (length log.past))) (suc (length log.past))) (strikes c log story new w (entries_of old k)) v a → IsHeldBy c (story.at (length log.past)) story v a
      before v a other (inl o) = inl (record {
        slot = o.slot;
        place = o.place;
        address = o.address;
        within = o.within;
        took = o.took;
        unreached = or-none ((story.at (length log.past)).reached o.slot) _ (ap (λ z. z.reached o.slot) (sym (now-is story.at (length log.past) (effect_instant c new (story.at (length log.past))))) ∙ o.unreached);
      })
      before v a other (inr r) = elim (reserved-of v a r) [ inl e ↦ inr e | inr q ↦ absurd (other q.0) ]

      was-private : (a : ℕ) → is_named new a ≡ false → is_named old a ≡ false
      was-private a private = ap (λ (l : List (List Entry)). is_among l a) (sym g.takes.same.begun) ∙ private

      block-of : (v a : ℕ) → (story.reserved v a ≡ true) ⊎ ((v ≡ w) × (reserves c (entries_of old k) a ≡ true)) → IsInBlock c (effect_instant c new (story.at (length log.past))) a
      block-of v a (inl o) = step-block c (story.at (length log.past)) (effect_instant c new (story.at (length log.past))) a (inr g.good.step) (g.living.reserved v a o)
      block-of v a (inr r) = now-block a r.1

      apart-of : (u v a : ℕ) → (story.reserved u a ≡ true) ⊎ ((u ≡ w) × (reserves c (entries_of old k) a ≡ true)) → (story.reserved v a ≡ true) ⊎ ((v ≡ w) × (reserves c (entries_of old k) a ≡ true)) → u ≡ v
      apart-of u v a (inl o) (inl p) = g.living.apart u v a o p
      apart-of u v a (inl o) (inr p) = absurd (was-free u a p.1 o)
      apart-of u v a (inr o) (inl p) = absurd (was-free v a o.1 p)
      apart-of u v a (inr o) (inr p) = o.0 ∙ sym p.0

pub effects-told : EffectsAreTold
effects-told = record {
  living = λ c old new log story mark k w since opened publishes change g. effect-living c old new log story mark k w since opened publishes change g;
  own = λ c old new log story mark k w since opened publishes change moment g. effect-own c old new log story mark k w since opened publishes change g moment;
  others = λ c old new log story mark k w since opened publishes change v other_since other g ne begun. effect-others c old new log story mark k w since opened publishes change g v other_since other ne begun;
}
