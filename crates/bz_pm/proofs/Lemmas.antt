-- Laws of the acts of a memory, for the proofs of the crates above.
use Rattle.std.specs.Prelude.{◌≡◌, ◌==◌, ◌&&◌, if◌then◌else◌, Bool, true, false, ℕ, ◌<◌, List, length, slice_index, slice_set}
use Rattle.std.proofs.Common.{arith, refl}
use Rattle.std.proofs.lemmas.List.{get_or-set_same, get_or-set_other, length-set}
use Rattle.std.proofs.lemmas.Grind.{common_steps}
use Rattle.bz_pm.specs.Words.{Words, IsMemory}
use Rattle.bz_pm.specs.Acts.{stored, compared, evicted, after_cut}
use Rattle.bz_pm.specs.Changes.{StoredStoresOnly, ComparedComparesOnly, EvictedEvictsOnly, CutCutsOnly}

-- a list after one write, by address
word-set : (xs : List ℕ) (a v b : ℕ) → a < length xs → slice_index (slice_set xs a v) b ≡ (if b == a then v else slice_index xs b)
word-set xs a v b within = grind (arith, common_steps, get_or-set_same xs a v 0 within, get_or-set_other xs a b v 0)

-- a list after a write that is made where a test holds, by address
word-set_if : (t : Bool) (xs : List ℕ) (a v b : ℕ) → a < length xs → slice_index (if t then slice_set xs a v else xs) b ≡ (if (b == a && t) then v else slice_index xs b)
word-set_if true xs a v b within = grind (arith, common_steps, word-set xs a v b within)
word-set_if false xs a v b within = grind (arith, common_steps)

length-set_if : (t : Bool) (xs : List ℕ) (a v : ℕ) → length (if t then slice_set xs a v else xs) ≡ length xs
length-set_if true xs a v = length-set xs a v
length-set_if false xs a v = refl

-- either of two values below a bound is below it
pub either_below : (t : Bool) (v w n : ℕ) → v < n → w < n → (if t then v else w) < n
either_below true v w n small less = small
either_below false v w n small less = less

pub IsMemory-same_lengths : (m n : Words) → IsMemory m → length n.cached ≡ length m.cached → length n.durable ≡ length m.durable → IsMemory n
IsMemory-same_lengths m n i cached durable = record {
  same = omega (arith, i.same);
  lines = rw durable i.lines;
  size = rw durable i.size;
}

pub store : StoredStoresOnly
store m a v i within small = record {
  cached = λ b. word-set m.cached a v b within;
  durable = λ b. refl;
  stays = record {
    cached = length-set m.cached a v;
    durable = refl;
    memory = IsMemory-same_lengths m (stored m a v) i (length-set m.cached a v) refl;
    fit = λ h. record {
      cached = λ b. rw (word-set m.cached a v b within) (either_below (b == a) v _ _ small (h.cached b));
      durable = h.durable;
    };
  };
}

pub compare : ComparedComparesOnly
compare m a expected v i within small =
    let test : Bool = slice_index m.cached a == expected in
    record {
      cached = λ b. word-set_if test m.cached a v b within;
      durable = λ b. refl;
      stays = record {
        cached = length-set_if test m.cached a v;
        durable = refl;
        memory = IsMemory-same_lengths m (compared m a expected v) i (length-set_if test m.cached a v) refl;
        fit = λ h. record {
          cached = λ b. rw (word-set_if test m.cached a v b within) (either_below (b == a && test) v _ _ small (h.cached b));
          durable = h.durable;
        };
      };
    }

pub evict : EvictedEvictsOnly
evict m a i within =
    let here : a < length m.durable = omega (arith, i.same) in
    let word : ℕ = slice_index m.cached a in
    record {
      cached = λ b. refl;
      durable = λ b. grind (arith, common_steps, word-set m.durable a word b here);
      stays = record {
        cached = refl;
        durable = length-set m.durable a word;
        memory = IsMemory-same_lengths m (evicted m a) i refl (length-set m.durable a word);
        fit = λ h. record {
          cached = h.cached;
          durable = λ b. rw (word-set m.durable a word b here) (either_below (b == a) _ _ _ (h.cached a) (h.durable b));
        };
      };
    }

pub cut : CutCutsOnly
cut m i = record {
  cached = λ b. refl;
  durable = λ b. refl;
  stays = record {
    cached = omega (arith, i.same);
    durable = refl;
    memory = IsMemory-same_lengths m (after_cut m) i (omega (arith, i.same)) refl;
    fit = λ h. record { cached = h.durable; durable = h.durable };
  };
}
