-- Keys and bounds that rise as far as they have been looked at.
use Rattle.std.specs.Prelude.{◌≡◌, ℕ, ◌+◌, ◌-◌, ◌<◌, ◌≤◌, List, [], length, map, drop, get_or, Option, Some, None, IsSome}
use Rattle.std.specs.Option.{is_some}
use Rattle.std.proofs.Common.{false, arith, refl, ap, sym, ◌∙◌, inl, inr}
use Rattle.std.proofs.lemmas.Bool.{cases_lt}
use Rattle.std.proofs.lemmas.List.{get_or-map, get_or-drop, length-map, length-drop}
use Rattle.bz_node.specs.declared.child.Child.{Child}
use Rattle.bz_node.specs.Layout.{bound_of}
use Rattle.bz_node.specs.Records.{IsBefore, keys_of, separators_of, IsLeafList, IsChildList}
use Rattle.bz_node.proofs.Orders.{IsBefore-trans, length-keys_of}

-- each of the first keys, so many, is before every later one of them
abbrev pub RiseTo : List (List ℕ) → ℕ → Type 0
RiseTo keys n = (i j : ℕ) → i < j → j < n → IsBefore (get_or keys i []) (get_or keys j [])

pub rise_one : (keys : List (List ℕ)) → RiseTo keys 1
rise_one keys i j less within = absurd (omega arith)

pub rise_more : (keys : List (List ℕ)) (n : ℕ) → 1 ≤ n → RiseTo keys n → IsBefore (get_or keys (n - 1) []) (get_or keys n []) → RiseTo keys (n + 1)
rise_more keys n some rise next i j less within =
    elim (cases_lt j n) [
      | inl below ↦ rise i j less below
      | inr last ↦ (let e : j ≡ n = omega arith in rw e (
          elim (cases_lt i (n - 1)) [
            | inl before ↦ IsBefore-trans (get_or keys i []) (get_or keys (n - 1) []) (get_or keys n []) (rise i (n - 1) before (omega arith)) next
            | inr at ↦ (let f : i ≡ n - 1 = omega arith in rw f next)
          ]))
    ]

pub leaf_checked : (records : List (List ℕ × List ℕ)) (n : ℕ) → length records ≤ n → RiseTo (keys_of records) n → IsLeafList records None None
leaf_checked records n all rise = record {
  rising = λ i j less within. rise i j less (omega (arith, length-keys_of records));
  from = λ k d within. tt;
  below = λ k d within. tt;
}

-- the bounds of all children, the first with no bytes
abbrev pub bounds_of : List Child → List (List ℕ)
bounds_of children = map (λ (c : Child). bound_of c.low) children

pub child_checked : (children : List Child) (n : ℕ) → 0 < length children → length children ≤ n → ((d : Child) → (get_or children 0 d).low ≡ None) →
    ((i : ℕ) (d : Child) → 1 ≤ i → i < n → IsSome (get_or children i d).low) → RiseTo (bounds_of children) n → IsChildList children None None
child_checked children n some all first others rise =
    let long : length (separators_of children) ≡ length children - 1 = omega (arith, length-map (drop 1 children) (λ (c : Child). bound_of c.low), length-drop 1 children) in
    let none : Child = record { low = None; slot = 0 } in
    let at = λ (i : ℕ) (within : i < length (separators_of children)).
    get_or-map (λ (c : Child). bound_of c.low) (drop 1 children) i none [] (omega (arith, within, long, length-drop 1 children))
    ∙ ap (λ (c : Child). bound_of c.low) (get_or-drop 1 children i none)
    ∙ sym (get_or-map (λ (c : Child). bound_of c.low) children (1 + i) none [] (omega (arith, within, long))) in
    record {
      some = some;
      first = λ i d within low. (let e : i ≡ 0 = omega arith in rw e (first d));
      others = λ i d within high. others i d high (omega arith);
      rising = λ i j less within. (
          let i_in : i < length (separators_of children) = omega arith in
          rw (at i i_in, at j within) (rise (1 + i) (1 + j) (omega arith) (omega (arith, within, long))));
      above = λ k d within. tt;
      below = λ k d within. tt;
    }

pub none_there : (o : Option (List ℕ)) → is_some o ≡ false → o ≡ None
none_there None h = refl
none_there (Some x) h = cc
