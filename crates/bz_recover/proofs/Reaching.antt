-- A walk at the pointer to a child.
use Rattle.std.proofs.Common.{◌≡◌, ◌≢◌, ℕ, ◌+◌, ◌-◌, ◌<◌, ◌≤◌, List, Contains, arith, subst, inl, inr}
use Rattle.std.proofs.lemmas.Bool.{cases_lt}
use Rattle.bz_content.specs.Content.{view_in}
use Rattle.bz_content.specs.Image.{node}
use Rattle.bz_content.specs.Resolving.{resolve}
use Rattle.bz_layout.specs.Addresses.{node_address}
use Rattle.bz_layout.specs.Slots.{without}
use Rattle.bz_layout.specs.declared.config.Config.{Config}
use Rattle.bz_tree.specs.View.{View}
use Rattle.bz_slotted.specs.Page.{page}
use Rattle.bz_slotted.specs.Records.{pointer_at}
use Rattle.bz_recover.specs.Walking.{IsTreeOf, HasCome, GoesOn, way_at}
use Rattle.bz_recover.specs.declared.walk.Way.{Way}
use Rattle.bz_recover.proofs.Onward.{IsSound, after, leaf-taken, leaf-next, inner-taken, inner-next}
use Rattle.bz_recover.proofs.Reading.{IsChild, pointer-read, sound}

-- the child is held
pub record ChildTaken (c : Config) (v : View) (top : ℕ) (ways : List Way) (free : List ℕ) (l : ℕ) (way : Way) (child pointer : ℕ) : Type 0 where
  pub some : 0 < pointer
  pub slot : pointer ≤ c.nodes
  pub was_free : child + 1 ≡ pointer → Contains free child
  pub leaf : child + 1 ≡ pointer → l ≡ 1 → GoesOn v top ways (without child free) l (after way)
  pub inner : child + 1 ≡ pointer → 1 < l → l ≤ top → (ways-after : List Way) → way_at ways-after l ≡ after way → ((j : ℕ) → j ≢ l → way_at ways-after j ≡ way_at ways j) →
      HasCome v top ways-after (without child free) (l - 1) child

pub child-taken : (c : Config) (values image : ℕ → ℕ) (top : ℕ) (ways : List Way) (free : List ℕ) (l : ℕ) (way : Way) (child pointer place : ℕ) →
    IsTreeOf c values image → GoesOn (view_in c image) top ways free l way → way.next < way.count → pointer_at (page (node c (resolve image) way.slot)) way.next ≡ place → values (node_address c way.slot + place) ≡ pointer →
    ChildTaken c (view_in c image) top ways free l way child pointer
child-taken c values image top ways free l way child pointer place t g more at told = record {
  some = d.some;
  slot = d.slot;
  was_free = λ e. subst (Contains free) (is e) was-free;
  leaf = λ e low. subst (λ k. GoesOn v top ways (without k free) l (after way)) (is e) (leaf-next v top ways free l way s g more inside low);
  inner = λ e high below ways-after here others. subst (λ k. HasCome v top ways-after (without k free) (l - 1) k) (is e) (inner-next v top ways free l way s g more inside ways-after here others high below);
}
  where
    v : View
    v = view_in c image

    s : IsSound v
    s = sound c values image t

    less : way.next < v.count g.visit.slot
    less = omega (arith, more, g.on_way.count)

    d : IsChild c v g.visit.slot way.next pointer
    d = pointer-read c values image g.visit l way.slot way.next place pointer t g.on_way.inner g.on_way.slot less at told

    inside : v.child g.visit.slot way.next < v.top
    inside = omega (arith, d.child, d.slot)

    is : child + 1 ≡ pointer → v.child g.visit.slot way.next ≡ child
    is e = omega (arith, d.child, e)

    was-free : Contains free (v.child g.visit.slot way.next)
    was-free = elim (cases_lt 1 l) [
      | inl high ↦ (inner-taken v top ways free l way s g more inside high).was_free
      | inr low ↦ (leaf-taken v top ways free l way s g more inside (omega (arith, low, g.on_way.inner.inner))).was_free
    ]
