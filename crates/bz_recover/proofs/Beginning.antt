-- A walk at its root.
use Rattle.std.proofs.Common.{◌≡◌, ℕ, suc, ◌+◌, ◌-◌, ◌%◌, ◌/◌, ◌^◌, ◌<◌, ◌==◌, false, List, [], ◌∷◌, ◌++◌, Contains, arith, refl, sym, ap, ◌∙◌, subst, inl, inr, append-nil}
use Rattle.std.proofs.lemmas.Bool.{cases_lt}
use Rattle.bz_content.specs.Content.{IsWellFormed, view_in}
use Rattle.bz_content.specs.Image.{node, root}
use Rattle.bz_content.specs.Resolving.{resolve}
use Rattle.bz_content.proofs.Honesty.{no}
use Rattle.bz_content.proofs.Reached.{is as same}
use Rattle.bz_content.proofs.Proved.{well_formed_images_have_no_fault}
use Rattle.bz_layout.specs.Addresses.{node_address}
use Rattle.bz_layout.specs.Slots.{all_free, without}
use Rattle.bz_layout.specs.declared.config.Config.{Config}
use Rattle.bz_layout.specs.declared.sizes.TheConstants.{HEADER_AT}
use Rattle.bz_layout.specs.declared.thresholds.TheConstants.{MAX_LEVELS}
use Rattle.bz_layout.proofs.Laws.{all_slots_are_free}
use Rattle.bz_tree.specs.Stack.{pending}
use Rattle.bz_tree.specs.View.{View}
use Rattle.bz_tree.specs.Walk.{Visit, kid, kids, start, visits, walk}
use Rattle.bz_tree.proofs.Stacks.{pending-inner, pending-leaf}
use Rattle.bz_slotted.specs.Readers.{level_of}
use Rattle.bz_word.specs.Headers.{header}
use Rattle.bz_recover.specs.Walking.{IsTreeOf, IsBetween, IsBefore, IsInner, HasCome, above}
use Rattle.bz_recover.specs.declared.walk.Way.{Way}
use Rattle.bz_recover.proofs.Between.{Taken, takes}
use Rattle.bz_recover.proofs.Onward.{IsSound, none-above}
use Rattle.bz_recover.proofs.Reading.{sound, node-value, inner-facts}

-- the walk begins with the superblock and the root
walk-begins : (v : View) → v.count v.top ≡ 1 → 0 < v.height → walk v ≡ start v ∷ pending v (kid v (start v) (v.height - 1) 0 ∷ [])
unfolding pending kids
walk-begins v one tall =
    let e : v.height ≡ suc (v.height - 1) = omega (arith, tall) in
    sym (append-nil (visits v v.height (start v)))
    ∙ (pending-inner v (v.height - 1) (start v) [] e ∙ (λ t. start v ∷ pending v (kids v (start v) (v.height - 1) 0 (one t) ++ [])))

-- where every slot is free, the walk is before its root
pub before-root : (c : Config) (values image : ℕ → ℕ) → IsTreeOf c values image → IsBefore (view_in c image) (all_free c.nodes).free
before-root c values image t =
    let well : IsWellFormed c image = (well_formed_images_have_no_fault c image).0 t.none in
    record {
      behind = start (view_in c image) ∷ [];
      whole = walk-begins (view_in c image) well.tree.one well.tree.tall;
      slots = λ k l. (let other : (c.nodes == k) ≡ false = no c.nodes k (omega (arith, l)) in (λ h. rw other refl, λ h. all_slots_are_free c.nodes k l));
    }

-- the root is held
pub record RootTaken (v : View) (ways : List Way) (free : List ℕ) (slot level : ℕ) : Type 0 where
  pub was_free : Contains free slot
  pub low : level < MAX_LEVELS
  pub leaf : level ≡ 0 → IsBetween v [] (without slot free)
  pub inner : 0 < level → HasCome v level ways (without slot free) level slot

module _ (c : Config) (values image : ℕ → ℕ) (ways : List Way) (free : List ℕ) (slot y : ℕ) (t : IsTreeOf c values image) (inside : slot < c.nodes) (b : IsBefore (view_in c image) free) (is : root (resolve image) ≡ slot) (told : values (node_address c slot + HEADER_AT) ≡ y) where
  abbrev v : View
  v = view_in c image

  abbrev u : Visit
  u = kid v (start v) (v.height - 1) 0

  s : IsSound (view_in c image)
  s = sound c values image t

  root-slot : u.slot ≡ slot
  root-slot = rw (same c.nodes) is

  root-level : u.level ≡ y % 2 ^ 8
  unfolding level_of header
  root-level =
      let word : node c (resolve image) slot HEADER_AT ≡ y = node-value c values image slot HEADER_AT t inside (omega arith) ∙ told in
      let level : level_of (node c (resolve image) (root (resolve image))) ≡ level_of (node c (resolve image) slot) = ap (λ k. level_of (node c (resolve image) k)) is in
      let read : level_of (node c (resolve image) slot) ≡ y / 1 % 2 ^ 8 = ap (λ n. n / 1 % 2 ^ 8) word in
      omega (arith, level, read)

  less : u.slot < v.top
  less = omega (arith, root-slot, inside)

  leaf-taken : u.level ≡ 0 → Taken v u [] free
  leaf-taken low = takes v u (u ∷ []) [] free s.none s.once less b (pending-leaf v u [] low)

  inner-taken : 0 < u.level → Taken v u (kids v u (u.level - 1) 0 (v.count u.slot) ++ []) free
  inner-taken high = takes v u (u ∷ []) (kids v u (u.level - 1) 0 (v.count u.slot) ++ []) free s.none s.once less b (pending-inner v (u.level - 1) u [] (omega (arith, high)))

  is-inner : 0 < u.level → IsInner v u (y % 2 ^ 8)
  is-inner high = record { slot = less; level = root-level; inner = omega (arith, root-level, high); whole = (inner-taken high).whole }

  come : 0 < y % 2 ^ 8 → HasCome v (y % 2 ^ 8) ways (without slot free) (y % 2 ^ 8) slot
  come high =
      let up : 0 < u.level = omega (arith, root-level, high) in
      let at : ℕ → Visit = λ j. u in
      let nothing : [] ≡ above v at ways (y % 2 ^ 8) (y % 2 ^ 8 - y % 2 ^ 8) = sym (none-above v at ways (y % 2 ^ 8) (y % 2 ^ 8 - y % 2 ^ 8) (omega arith)) in
      record {
        visit = u;
        there = root-slot;
        here = record {
          inner = is-inner up;
          at = at;
          on_way = λ j lower upper. absurd (omega (arith, lower, upper));
          between = subst (λ k. IsBetween v (kids v u (y % 2 ^ 8 - 1) 0 (v.count u.slot) ++ above v at ways (y % 2 ^ 8) (y % 2 ^ 8 - y % 2 ^ 8)) (without k free)) root-slot
              (subst (λ r. IsBetween v (kids v u (y % 2 ^ 8 - 1) 0 (v.count u.slot) ++ r) (without u.slot free)) nothing
              (subst (λ l. IsBetween v (kids v u (l - 1) 0 (v.count u.slot) ++ []) (without u.slot free)) root-level (inner-taken up).between));
        };
      }

  pub root-taken : RootTaken v ways free slot (y % 2 ^ 8)
  root-taken = elim (cases_lt 0 u.level) [
    | inl high ↦ record {
      was_free = subst (Contains free) root-slot (inner-taken high).was_free;
      low = omega (arith, (inner-facts c image u (y % 2 ^ 8) (is-inner high)).level.lowest, root-level);
      leaf = λ none. absurd (omega (arith, none, root-level, high));
      inner = come;
    }
    | inr none ↦ (
        let low : u.level ≡ 0 = omega (arith, none) in
        record {
          was_free = subst (Contains free) root-slot (leaf-taken low).was_free;
          low = omega (arith, root-level, low);
          leaf = λ e. subst (λ k. IsBetween v [] (without k free)) root-slot (leaf-taken low).between;
          inner = λ high. absurd (omega (arith, high, root-level, low));
        })
  ]
