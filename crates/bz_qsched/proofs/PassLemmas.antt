-- Words that an armed cut passes.
use Rattle.std.proofs.Common.{◌≡◌, ◌≢◌, ◌≤◌, ◌<◌, ◌⊎◌, inl, inr, ℕ, suc, ◌+◌, ◌-◌, ◌==◌, Bool, true, false, List, ◌∷◌, refl, sym, ap, subst, ◌∙◌, arith}
use Rattle.std.specs.Prelude.{not}
use Rattle.std.proofs.lemmas.Bool.Decides.{nat_tests}
use Rattle.bz_ring.specs.declared.marks.QMark.{QMark}
use Rattle.bz_mark.specs.declared.marks.Mark.TheVariants.{Evict}
use Rattle.bz_ring.specs.declared.marks.QMark.TheVariants.{Memory}
use Rattle.bz_ring.specs.Follows.{power_after}
use Rattle.bz_mark.specs.declared.power.Power.{Power}
use Rattle.bz_script.specs.Draws.{next_state, draw_of}
use Rattle.bz_mark.specs.declared.power.Power.TheVariants as power
use Rattle.bz_queue.specs.QueueView.{QueueView, power_in, StrikesBy, IsStruck}
use Rattle.bz_qsched.specs.Cuts.{differs_at, is_drawn, Evicts, Passes, PassesBy, state_behind, PassesFrom, PassesInPart, EvictsBy, EvictsByInPart}
use Rattle.bz_qsched.specs.Cutting.{Evolves, WordEvicted, WordPassed, PassStopped, WordsPassed, PassesStopped, AreEvicted, EvictionsStopped}
use Rattle.bz_qsched.specs.Runs.{marks_left}
use Rattle.bz_qsched.proofs.PowerLemmas.{struck_power}
use Rattle.bz_qsched.proofs.StepLemmas.{struck_is}

pub evolves_none : (world : QueueView) → Evolves world world
evolves_none world = record { stays = record { numbers = refl; start = refl; most = refl }; power = refl; flushes = refl }

pub evolves_both : (a b c : QueueView) → Evolves a b → Evolves b c → Evolves a c
evolves_both a b c h k = record {
  stays = record { numbers = k.stays.numbers ∙ h.stays.numbers; start = k.stays.start ∙ h.stays.start; most = k.stays.most ∙ h.stays.most };
  power = k.power ∙ h.power;
  flushes = k.flushes ∙ h.flushes;
}

-- an eviction: in a recovery it has no effect
strikes_is : (p : Power) (past new : List QMark) → StrikesBy p past new → IsStruck past new
strikes_is power.On past new h = h
strikes_is power.Off past new h = inl h
strikes_is power.Recovering past new h = inl h

evicted_evolves : (old : QueueView) (a : ℕ) (new : QueueView) → WordEvicted old a new → Evolves old new
evicted_evolves old a new h =
    let e = h.evicts in
    let struck = strikes_is (power_in old) (Memory (Evict a) ∷ old.log.past) new.log.past e.effect in
    record {
      stays = record { numbers = ap (λ (view : QueueView). view.numbers) e.rest; start = ap (λ (view : QueueView). view.log.start) e.rest; most = ap (λ (view : QueueView). view.log.most) e.rest };
      power = struck_power (Memory (Evict a)) old.log.past new.log.past struck;
      flushes = ap (λ (view : QueueView). view.flushes) e.rest;
    }

evicted_is : (old : QueueView) (a : ℕ) (new : QueueView) → WordEvicted old a new → Evicts a old.log.past new.log.past
evicted_is old a new h =
    let struck = struck_is (Memory (Evict a)) old.log.past new.log.past (strikes_is (power_in old) (Memory (Evict a) ∷ old.log.past) new.log.past h.evicts.effect) in
    record { effect = struck.effect; is = struck.is; one_effect = struck.one_effect }

-- whether a word differs, as the world tells it
pub same_words : (x y : ℕ) → ((x ≢ y) → ⊥) → not (x == y) ≡ false
same_words x y same = elim (tested x y) [ inl is ↦ rw is refl | inr is ↦ absurd (same (λ e. grind (arith, nat_tests, is, e))) ]
  where
    tested : (x y : ℕ) → ((x == y) ≡ true) ⊎ ((x == y) ≡ false)
    tested x y = grind (arith, nat_tests)

pub other_words : (x y : ℕ) → x ≢ y → not (x == y) ≡ true
other_words x y other = let unlike : (x == y) ≡ false = grind (arith, nat_tests, other) in rw unlike refl

module _ (old : QueueView) (a state : ℕ) where
  -- it does not differ
  pub passed_same : differs_at old.log.start old.log.past a ≡ false → WordPassed a state old old
  passed_same is = record { evolves = evolves_none old; passes = subst (λ (b : Bool). PassesBy b (is_drawn (next_state state)) a old.log.past old.log.past) (sym is) refl }

  -- its draw leaves it
  pub passed_undrawn : differs_at old.log.start old.log.past a ≡ true → is_drawn (next_state state) ≡ false → WordPassed a state old old
  passed_undrawn is undrawn = record {
    evolves = evolves_none old;
    passes =
        subst (λ (b : Bool). PassesBy b (is_drawn (next_state state)) a old.log.past old.log.past) (sym is)
        (subst (λ (b : Bool). PassesBy true b a old.log.past old.log.past) (sym undrawn) refl);
  }

  -- it is evicted
  pub passed_evicted : (new : QueueView) → differs_at old.log.start old.log.past a ≡ true → is_drawn (next_state state) ≡ true → WordEvicted old a new → WordPassed a state old new
  passed_evicted new is drawn h = record {
    evolves = evicted_evolves old a new h;
    passes =
        subst (λ (b : Bool). PassesBy b (is_drawn (next_state state)) a old.log.past new.log.past) (sym is)
        (subst (λ (b : Bool). PassesBy true b a old.log.past new.log.past) (sym drawn) (evicted_is old a new h));
  }

-- the state behind a word
pub behind_same : (differs : Bool) (state : ℕ) → differs ≡ false → state ≡ state_behind differs state
behind_same differs state is = rw is refl

pub behind_next : (differs : Bool) (state : ℕ) → differs ≡ true → next_state state ≡ state_behind differs state
behind_next differs state is = rw is refl

-- what a draw tells
pub undrawn_is : (draw state : ℕ) → draw ≡ draw_of state → draw < 2147483648 → is_drawn state ≡ false
undrawn_is draw state is low = let small : draw_of state < 2147483648 = rw (← is) low in grind (arith, nat_tests, small)

pub drawn_is : (draw state : ℕ) → draw ≡ draw_of state → 2147483648 ≤ draw → is_drawn state ≡ true
drawn_is draw state is high =
    let large : 2147483648 ≤ draw_of state = rw (← is) high in
    grind (arith, nat_tests, large)

-- the words before this one were passed: what follows follows from the start
pub record Passing (words seed a state : ℕ) (old world : QueueView) : Type 0 where
  pub evolves : Evolves old world
  pub whole : (new : List QMark) → PassesFrom old.log.start (words - a) a state world.log.past new → PassesFrom old.log.start words 0 seed old.log.past new
  pub part : (new : List QMark) → PassesInPart old.log.start (words - a) a state world.log.past new → PassesInPart old.log.start words 0 seed old.log.past new

pub passing_none : (words seed : ℕ) (old : QueueView) → Passing words seed 0 seed old old
passing_none words seed old =
    let all : words - 0 ≡ words = omega arith in
    record {
      evolves = evolves_none old;
      whole = λ new passes. subst (λ (count : ℕ). PassesFrom old.log.start count 0 seed old.log.past new) all passes;
      part = λ new passes. subst (λ (count : ℕ). PassesInPart old.log.start count 0 seed old.log.past new) all passes;
    }

module _ (words seed a state : ℕ) (old world : QueueView) (p : Passing words seed a state old world) where
  -- a word more
  pub passing_more : (next : ℕ) (new : QueueView) → a < words → WordPassed a state world new → next ≡ state_behind (differs_at world.log.start world.log.past a) state → Passing words seed (a + 1) next old new
  passing_more next new few h is =
      let more : words - a ≡ suc (words - (a + 1)) = omega arith in
      let passes : Passes old.log.start a state world.log.past new.log.past = subst (λ (start : List ℕ). Passes start a state world.log.past new.log.past) p.evolves.stays.start h.passes in
      let behind : next ≡ state_behind (differs_at old.log.start world.log.past a) state = is ∙ ap (λ (start : List ℕ). state_behind (differs_at start world.log.past a) state) p.evolves.stays.start in
      record {
        evolves = evolves_both old world new p.evolves h.evolves;
        whole = λ end rest.
            p.whole end (subst (λ (count : ℕ). PassesFrom old.log.start count a state world.log.past end) (sym more)
            (new.log.past, passes, subst (λ (s : ℕ). PassesFrom old.log.start (words - (a + 1)) (a + 1) s new.log.past end) behind rest));
        part = λ end rest.
            p.part end (subst (λ (count : ℕ). PassesInPart old.log.start count a state world.log.past end) (sym more)
            (inr (new.log.past, passes, subst (λ (s : ℕ). PassesInPart old.log.start (words - (a + 1)) (a + 1) s new.log.past end) behind rest)));
      }

  -- no place was left for one
  pub passing_stops : (new : QueueView) → a < words → PassStopped a state world new → PassesStopped words seed old new
  passing_stops new few h =
      let more : words - a ≡ suc (words - (a + 1)) = omega arith in
      let differs : differs_at old.log.start world.log.past a ≡ true = subst (λ (start : List ℕ). differs_at start world.log.past a ≡ true) p.evolves.stays.start h.differs in
      let short = h.refused.short in
      let met : marks_left world < 3 = grind (arith, nat_tests, short) in
      rw h.refused.same (record {
        evolves = p.evolves;
        passes = p.part world.log.past (subst (λ (count : ℕ). PassesInPart old.log.start count a state world.log.past world.log.past) (sym more) (inl (differs, h.drawn, refl)));
        met = met;
      })

  -- all were passed
  pub passing_done : words ≤ a → WordsPassed words seed old world
  passing_done all =
      let none : words - a ≡ 0 = omega arith in
      record { evolves = p.evolves; passes = p.whole world.log.past (subst (λ (count : ℕ). PassesFrom old.log.start count a state world.log.past world.log.past) (sym none) refl) }

-- a seed of 0 evicts none
pub none_evicted : (words seed : ℕ) (old : QueueView) → seed ≡ 0 → AreEvicted words seed old old
none_evicted words seed old is = record { evolves = evolves_none old; evicts = rw is refl }

by_seed : (seed : ℕ) → (seed ≡ 0 → ⊥) → (seed == 0) ≡ false
by_seed seed some = grind (arith, nat_tests, some)

pub some_evicted : (words seed : ℕ) (old new : QueueView) → (seed ≡ 0 → ⊥) → WordsPassed words seed old new → AreEvicted words seed old new
some_evicted words seed old new some h = record {
  evolves = h.evolves;
  evicts = subst (λ (b : Bool). EvictsBy b old.log.start words seed old.log.past new.log.past) (sym (by_seed seed some)) h.passes;
}

pub some_stopped : (words seed : ℕ) (old new : QueueView) → (seed ≡ 0 → ⊥) → PassesStopped words seed old new → EvictionsStopped words seed old new
some_stopped words seed old new some h = record {
  evolves = h.evolves;
  evicts = subst (λ (b : Bool). EvictsByInPart b old.log.start words seed old.log.past new.log.past) (sym (by_seed seed some)) h.passes;
  met = h.met;
}

-- the power is not off while words are passed
pub still_on : (old world : QueueView) → Evolves old world → power_in old ≢ power.Off → power_in world ≢ power.Off
still_on old world e powered off = powered (sym e.power ∙ off)

pub word_within : (a count words : ℕ) → a < count → count ≡ words → a < words
word_within a count words few is = omega (arith, few, is)
