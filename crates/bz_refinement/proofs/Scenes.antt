-- The scene of a worker whose call is open is one of the memory now.
use Rattle.std.proofs.Common.{◌≡◌, ◌≢◌, ℕ, suc, ◌^◌, ◌<◌, ◌≤◌, ◌==◌, ◌⊎◌, true, false, length, arith, refl, inl, inr}
use Rattle.std.proofs.lemmas.Bool.Decides.{nat_tests}
use Rattle.bz_layout.specs.Addresses.{node_address, words_of as size_of}
use Rattle.bz_layout.specs.declared.config.Config.{Config}
use Rattle.bz_mark.specs.Log.{Log}
use Rattle.bz_sight.specs.Starts.{Sees}
use Rattle.bz_sight.proofs.Proved.{hidden_words_are_values}
use Rattle.bz_sound.specs.Calls.{Open}
use Rattle.bz_swap.specs.SwapMemory.{SwapMemory}
use Rattle.bz_task.specs.Instant.{Instant}
use Rattle.bz_task.specs.Others.{AreApart, IsOfReached}
use Rattle.bz_task.specs.Scene.{Scene, IsOfTaken, IsMine}
use Rattle.bz_task.proofs.Proved.{sharers_of_nothing_are_apart}
use Rattle.bz_refinement.specs.Laws.{ScenesAreSeen, HasBegun}
use Rattle.bz_refinement.specs.Living.{IsLiving, IsInBlock}
use Rattle.bz_refinement.specs.Story.{Story, scene, and_then}

-- the last moment, and those before
pub now-is : (at : ℕ → Instant) (n : ℕ) (y : Instant) → and_then at n y (suc n) ≡ y
now-is at n y = let t : (suc n == suc n) ≡ true = grind (arith, nat_tests) in rw t refl

pub before-is : (at : ℕ → Instant) (n m : ℕ) (y : Instant) → m ≤ n → and_then at n y m ≡ at m
before-is at n m y l = let t : (m == suc n) ≡ false = grind (arith, nat_tests) in rw t refl

module _ (c : Config) (m : SwapMemory) (log : Log) (story : Story) (w since : ℕ) (opened : Open) (living : IsLiving c m log story) (begun : HasBegun log story since) where
  s : Scene
  s = scene c log.past story w since opened

  -- own words lie in a slot of the memory
  in-slot : (a : ℕ) → IsOfTaken (scene c log.past story w since opened) a ⊎ (story.reserved w a ≡ true) → (node_address c 0 ≤ a) × (a < size_of c)
  in-slot a (inl o) = let slot : o.slot < c.nodes = living.took w o.slot o.took in (omega (arith, o.address), omega (arith, o.address, o.within, slot))
  in-slot a (inr r) =
      let block : IsInBlock c (story.at (length log.past)) a = living.reserved w a r in
      let slot : block.slot < c.nodes = living.seen.good.slots block.slot block.reached in
      (omega (arith, block.address), omega (arith, block.address, block.within, slot))

  -- and hold values
  own : (a : ℕ) → IsMine (scene c log.past story w since opened) a → (node_address c 0 ≤ a) × ((a < size_of c) × ((story.at (length log.past)).value a < 2 ^ 61))
  own a mine =
      let place : (node_address c 0 ≤ a) × (a < size_of c) = in-slot a mine.own in
      (place.0, (place.1, hidden_words_are_values c (story.at (length log.past)) m a living.seen (record { in_slots = place.0; unread = mine.hidden })))

  sees : Sees c (story.at (length log.past)) (scene c log.past story w since opened)
  sees = record {
    scene = record {
      config = living.seen.config;
      begun = omega (arith, begun);
      history = record {
        good = λ i from to. living.history.good i (omega arith) to;
        step = λ i from to. living.history.step i (omega arith) to;
      };
      mine = own;
    };
    config = refl;
    here = refl;
  }

pub scenes-seen : ScenesAreSeen
scenes-seen c m log story w since opened living begun = sees c m log story w since opened living begun

-- what one worker reserved or took is nobody else's
pub scenes-apart : (c : Config) (m : SwapMemory) (log : Log) (story : Story) (w v since other_since : ℕ) (opened other : Open) → IsLiving c m log story → w ≢ v → AreApart (scene c log.past story w since opened) (scene c log.past story v other_since other)
scenes-apart c m log story w v since other_since opened other living ne = sharers_of_nothing_are_apart (scene c log.past story w since opened) (scene c log.past story v other_since other) (record {
  config = refl;
  here = refl;
  took = λ k p q. ne (living.took_apart w v k p q);
  reserved = λ a p q. ne (living.apart w v a p q);
  of_first = λ a r. of-reached w since opened a (living.reserved w a r);
  of_second = λ a r. of-reached v other_since other a (living.reserved v a r);
})
  where
    of-reached : (u from : ℕ) (some : Open) (a : ℕ) → IsInBlock c (story.at (length log.past)) a → IsOfReached (scene c log.past story u from some) a
    of-reached u from some a b = record { slot = b.slot; place = b.place; address = b.address; within = b.within; reached = b.reached }
