-- What was found on the way up stays.
use Rattle.std.proofs.Common.{ℕ, ◌≤◌, List, arith}
use Rattle.bz_task.specs.Scene.{Past, Continues}
use Rattle.bz_task.proofs.Proved.{paths_stay}
use Rattle.bz_ascent.specs.Full.{StoodAt, WasFull, WasLevelFull, AreFullUpTo}
use Rattle.bz_ascent.specs.Laws.{AscentsStay}

module _ (p q : Past) (n : Continues p q) where
  later : (m : ℕ) → m ≤ p.now → m ≤ q.now
  later m h = omega (arith, h, n.now)

  begun : (m : ℕ) → p.since ≤ m → q.since ≤ m
  begun m h = omega (arith, h, n.since)

  stood-stays : (slot level : ℕ) → StoodAt slot level p → StoodAt slot level q
  stood-stays slot level w = record {
    moment = w.moment;
    since = begun w.moment w.since;
    now = later w.moment w.now;
    inside = rw (n.config, n.at w.moment w.now) w.inside;
    at_level = rw (n.config, n.at w.moment w.now) w.at_level;
  }

  full-stays : (key : List ℕ) (slot level : ℕ) → WasFull key slot level p → WasFull key slot level q
  full-stays key slot level w = record {
    moment = w.moment;
    since = begun w.moment w.since;
    now = later w.moment w.now;
    within = rw n.config w.within;
    inside = rw (n.config, n.at w.moment w.now) w.inside;
    at_level = rw (n.config, n.at w.moment w.now) w.at_level;
    range = rw (n.config, n.at w.moment w.now) w.range;
    words = w.words;
    size = w.size;
    has = λ i. rw (n.config, n.at w.moment w.now) (w.has i);
    many = w.many;
  }

  level-stays : (key : List ℕ) (level : ℕ) → WasLevelFull key level p → WasLevelFull key level q
  level-stays key level w = record { slot = w.slot; full = full-stays key w.slot level w.full }

  up-to-stays : (key : List ℕ) (slot : ℕ) → AreFullUpTo key slot p → AreFullUpTo key slot q
  up-to-stays key slot f = record {
    level = f.level;
    within = rw n.config f.within;
    stood = stood-stays slot f.level f.stood;
    each = λ l some few. level-stays key l (f.each l some few);
  }

pub stays : AscentsStay
stays a p q is n = record {
  path = paths_stay a.key a.path p q is.path n;
  within = is.within;
  node = is.node;
  full = up-to-stays p q n a.key a.node.slot is.full;
}
