-- After a way, and once a key was looked up.
use Rattle.std.proofs.Common.{◌≡◌, ◌⊎◌, ◌+◌, ◌≤◌, if◌then◌else◌, Bool, true, false, arith, ap, inl, inr}
use Rattle.bz_costs.specs.Resources.{Resource}
use Rattle.bz_costs.specs.Most.{most_of_find, most_of_leaf, most_of_joining, most_of_lowering}
use Rattle.bz_costs.specs.FromRunning.Kinds as kinds
use Rattle.bz_costs.specs.FromRunning.Kinds.{kind_of}
use Rattle.bz_costs.specs.FromRunning.AnyTask.TheVariants.{Inserting, Updating, Deleting}
use Rattle.bz_solo.proofs.Coming.{two-ways, comes-after, comes-to-write, comes-to-read}
use Rattle.bz_solo.specs.Errands.{Errand, is_read}
use Rattle.bz_solo.specs.declared.rest.Rest.{Rest}
use Rattle.bz_solo.specs.declared.rest.Rest.TheVariants as rest
use Rattle.bz_solo.specs.Prices.{Prices, found_price, way_price, coming_by_rest, coming}
use Rattle.bz_solo.specs.Rounds.{WaysArePaid, ChangesArePaid}

pub way-read : (r : Resource) (q : Prices) (e : Errand) → e.froze ≡ true → way_price r q e ≡ most_of_leaf r + q.read
way-read r q e froze = ap (λ (b : Bool). if b then most_of_leaf r + q.read else most_of_find r + found_price r q) froze

pub way-found : (r : Resource) (q : Prices) (e : Errand) → e.froze ≡ false → way_price r q e ≡ most_of_find r + found_price r q
way-found r q e thawed = ap (λ (b : Bool). if b then most_of_leaf r + q.read else most_of_find r + found_price r q) thawed

read-late : (r : Resource) (q : Prices) (e : Errand) → e.effected ≡ true → e.rest ≡ rest.Leaf → most_of_leaf r + coming r q e kinds.ReadWhole ≤ coming r q e kinds.Seek
read-late r q e done left = omega (arith, comes-after r q e kinds.ReadWhole done, comes-after r q e kinds.Seek done, ap (coming_by_rest r) left)

-- after its effect the leaf, the inner node or the root
inner-late : (r : Resource) (q : Prices) (e : Errand) → e.effected ≡ true → e.rest ≡ rest.Inner → most_of_joining r + coming r q e kinds.MergeNodes ≤ coming r q e kinds.Seek
inner-late r q e done left = omega (arith, comes-after r q e kinds.MergeNodes done, comes-after r q e kinds.Seek done, ap (coming_by_rest r) left)

lowering-least : (r : Resource) (left : Rest) → most_of_lowering r ≤ coming_by_rest r left
lowering-least r rest.Leaf = omega arith
lowering-least r rest.Inner = omega arith
lowering-least r rest.Root = omega arith

root-late : (r : Resource) (q : Prices) (e : Errand) → e.effected ≡ true → most_of_lowering r + coming r q e kinds.LowerRoot ≤ coming r q e kinds.Seek
root-late r q e done = omega (arith, comes-after r q e kinds.LowerRoot done, comes-after r q e kinds.Seek done, lowering-least r e.rest)

read-read : (r : Resource) (q : Prices) (e : Errand) → e.effected ≡ false → is_read e.call ≡ true → most_of_leaf r + coming r q e kinds.ReadWhole ≤ coming r q e kinds.Seek
read-read r q e quiet read = omega (arith, comes-to-read r q e kinds.ReadWhole quiet read, comes-to-read r q e kinds.Seek quiet read)

read-froze : (r : Resource) (q : Prices) (e : Errand) → e.effected ≡ false → is_read e.call ≡ false → e.froze ≡ true → most_of_leaf r + coming r q e kinds.ReadWhole ≤ coming r q e kinds.Seek
read-froze r q e quiet write froze = omega (arith, comes-to-write r q e kinds.ReadWhole quiet write, comes-to-write r q e kinds.Seek quiet write, way-read r q e froze)

read-ways : (r : Resource) (q : Prices) (e : Errand) → (e.effected ≡ true → e.rest ≡ rest.Leaf) → (e.effected ≡ true) ⊎ ((is_read e.call ≡ true) ⊎ (e.froze ≡ true)) → most_of_leaf r + coming r q e kinds.ReadWhole ≤ coming r q e kinds.Seek
read-ways r q e left (inl done) = read-late r q e done (left done)
read-ways r q e left (inr (inl read)) = two-ways e.effected _ (λ done. read-late r q e done (left done)) (λ quiet. read-read r q e quiet read)
read-ways r q e left (inr (inr froze)) = two-ways e.effected _ (λ done. read-late r q e done (left done)) (λ quiet. two-ways (is_read e.call) _ (read-read r q e quiet) (λ write. read-froze r q e quiet write froze))

find-read : (r : Resource) (q : Prices) (e : Errand) → e.effected ≡ false → is_read e.call ≡ true → most_of_find r + coming r q e kinds.Find ≤ coming r q e kinds.Seek
find-read r q e quiet read = omega (arith, comes-to-read r q e kinds.Find quiet read, comes-to-read r q e kinds.Seek quiet read)

find-write : (r : Resource) (q : Prices) (e : Errand) → e.effected ≡ false → is_read e.call ≡ false → e.froze ≡ false → most_of_find r + coming r q e kinds.Find ≤ coming r q e kinds.Seek
find-write r q e quiet write thawed = omega (arith, comes-to-write r q e kinds.Find quiet write, comes-to-write r q e kinds.Seek quiet write, way-found r q e thawed)

pub ways-paid : (r : Resource) → WaysArePaid r
ways-paid r = record {
  read = read-ways r;
  inner = inner-late r;
  root = root-late r;
  find = λ q e quiet thawed. two-ways (is_read e.call) _ (find-read r q e quiet) (λ write. find-write r q e quiet write thawed);
}

pub changes-paid : (r : Resource) → ChangesArePaid r
unfolding kind_of
changes-paid r q e (Inserting t) quiet write k = omega (arith, comes-to-write r q e kinds.Insert quiet write, comes-to-write r q e kinds.Find quiet write)
changes-paid r q e (Updating t) quiet write k = omega (arith, comes-to-write r q e kinds.Update quiet write, comes-to-write r q e kinds.Find quiet write)
changes-paid r q e (Deleting t) quiet write k = omega (arith, comes-to-write r q e kinds.Delete quiet write, comes-to-write r q e kinds.Find quiet write)
changes-paid r q e t quiet write k = absurd (no-change k)
  where
    no-change : (kind_of t ≡ kinds.Insert) ⊎ ((kind_of t ≡ kinds.Update) ⊎ (kind_of t ≡ kinds.Delete)) → ⊥
    no-change (inl i) = cc
    no-change (inr (inl u)) = cc
    no-change (inr (inr d)) = cc
