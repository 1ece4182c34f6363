-- A node's header and fences say where it stands, so it stands there whenever it is in the tree.
use Rattle.std.proofs.Common.{◌≡◌, ◌≢◌, ℕ, zero, suc, ◌+◌, ◌^◌, ◌<◌, ◌≤◌, ◌==◌, true, false, List, arith, refl, sym, ap, subst, ◌∙◌, Option}
use Rattle.std.specs.Prelude.{Some, None}
use Rattle.std.proofs.lemmas.Bool.Decides.{nat_tests}
use Rattle.bz_call.specs.FromKey.Packing.{packed_len, unpacked_key}
use Rattle.bz_call.proofs.FromKey.UnpackingLaws.{unpacked_key-sound}
use Rattle.bz_layout.specs.declared.config.Config.{Config}
use Rattle.bz_layout.specs.declared.sizes.TheConstants.{STATUS_AT, HEADER_AT, LOW_FENCE_AT, HIGH_FENCE_AT, FENCE_WORDS, META_AT}
use Rattle.bz_content.specs.FromSlotted.Page.{words_at, page}
use Rattle.bz_content.specs.FromSlotted.Rules.{node_fault}
use Rattle.bz_content.specs.FromSlotted.Whole.{IsFence, HasFences}
use Rattle.bz_word.specs.Headers.{header}
use Rattle.bz_content.specs.Image.{node}
use Rattle.bz_content.proofs.FromSlotted.Proved.{inner_rules_are_facts, leaf_rules_are_facts}
use Rattle.bz_task.specs.Good.{IsGood}
use Rattle.bz_task.specs.Instant.{Instant, words, durable, form_at, is_inside}
use Rattle.bz_task.specs.Laws.{KeepsFront, RangesStay, HeadersSayTheLevel}
use Rattle.bz_task.proofs.Roots.{fits}
use Rattle.bz_task.proofs.Sames.{front-shown}
use Rattle.bz_task.proofs.Frozen.{fronts-stay}

no : (a b : ℕ) → a ≢ b → (a == b) ≡ false
no a b ne = grind (arith, nat_tests)

-- what header and fences say
pub record Says (n : ℕ → ℕ) (l : ℕ) (lo hi : Option (List ℕ)) : Type 0 where
  pub header : n HEADER_AT < 2 ^ 32
  pub level : (page n).level ≡ l
  pub fences : HasFences (page n) lo hi

says : (nodes l : ℕ) (r n : ℕ → ℕ) (lo hi : Option (List ℕ)) → node_fault nodes r n l lo hi ≡ None → Says n l lo hi
says nodes zero r n lo hi e = let w = (leaf_rules_are_facts nodes r n lo hi).0 e in record { header = w.level.header; level = w.level.level; fences = w.fences }
says nodes (suc l) r n lo hi e = let w = (inner_rules_are_facts nodes r n (suc l) lo hi (omega arith)).0 e in record { header = w.level.header; level = w.level.level; fences = w.fences }

pub said : (c : Config) (x : Instant) (k : ℕ) → IsGood c x → k ≢ c.nodes → is_inside c x k ≡ true → Says (durable c x k) ((form_at c x).level k) ((form_at c x).low k) ((form_at c x).high k)
said c x k g ne i =
    let e : node_fault c.nodes (node c x.image k) (durable c x k) ((form_at c x).level k) ((form_at c x).low k) ((form_at c x).high k) ≡ None =
    rw (no k c.nodes ne) at ((fits c x g).whole k i ne) in
    says c.nodes ((form_at c x).level k) (node c x.image k) (durable c x k) ((form_at c x).low k) ((form_at c x).high k) e

pub words_at-same : (f g : ℕ → ℕ) (at count : ℕ) → ((k : ℕ) → at ≤ k → k < at + count → f k ≡ g k) → words_at f at count ≡ words_at g at count
unfolding words_at
words_at-same f g at zero h = refl
words_at-same f g at (suc count) h = rw (h at (omega arith) (omega arith), words_at-same f g (at + 1) count (λ k a b. h k (omega arith) (omega arith))) refl

none-packed : (ws key : List ℕ) → unpacked_key 0 ws ≡ Some key → ⊥
unfolding unpacked_key
none-packed ws key e = cc

some-same : (a b : List ℕ) → Some a ≡ Some b → a ≡ b
some-same a b e = cc

-- one fence is one bound
fence-is : (n m : ℕ → ℕ) (at len : ℕ) (lo hi : Option (List ℕ)) → ((k : ℕ) → at ≤ k → k < at + FENCE_WORDS → m k ≡ n k) → IsFence n at len lo → IsFence m at len hi → hi ≡ lo
fence-is n m at len None None same f g = refl
fence-is n m at len None (Some b) same f g = absurd (none-packed (words_at m at (packed_len 0)) b (subst (λ z. unpacked_key z (words_at m at (packed_len z)) ≡ Some b) f.0 g))
fence-is n m at len (Some a) None same f g = absurd (none-packed (words_at n at (packed_len 0)) a (subst (λ z. unpacked_key z (words_at n at (packed_len z)) ≡ Some a) g.0 f))
fence-is n m at len (Some a) (Some b) same f g =
    let u = unpacked_key-sound len (words_at n at (packed_len len)) a f in
    let e : words_at m at (packed_len len) ≡ words_at n at (packed_len len) = words_at-same m n at (packed_len len) (λ k p q. same k p (omega (arith, q, u.0.fits, u.1))) in
    ap Some (some-same b a (sym g ∙ (ap (unpacked_key len) e ∙ f)))

-- header and fences say one place
place : (n m : ℕ → ℕ) (l d : ℕ) (lo hi low high : Option (List ℕ)) → ((i : ℕ) → i ≢ STATUS_AT → i < META_AT → m i ≡ n i) → Says n l lo hi → Says m d low high → (d ≡ l) × ((low ≡ lo) × (high ≡ hi))
place n m l d lo hi low high same s t =
    let hd : header (m HEADER_AT) ≡ header (n HEADER_AT) = ap header (same HEADER_AT (λ e. absurd (omega (arith, e))) (omega arith)) in
    let a : IsFence m LOW_FENCE_AT (header (n HEADER_AT)).low low = subst (λ z. IsFence m LOW_FENCE_AT z.low low) hd t.fences.low in
    let b : IsFence m HIGH_FENCE_AT (header (n HEADER_AT)).high high = subst (λ z. IsFence m HIGH_FENCE_AT z.high high) hd t.fences.high in (
      sym t.level ∙ (ap (λ z. z.level) hd ∙ s.level),
      (
        fence-is n m LOW_FENCE_AT (header (n HEADER_AT)).low lo low (λ k p q. same k (λ e. absurd (omega (arith, e, p))) (omega (arith, q))) s.fences.low a,
        fence-is n m HIGH_FENCE_AT (header (n HEADER_AT)).high hi high (λ k p q. same k (λ e. absurd (omega (arith, e, p))) (omega (arith, q))) s.fences.high b,
      ),
    )

pub ranges-stay : RangesStay
ranges-stay c at first last m j k h o ne im ij =
    let gm : IsGood c (at m) = h.good m o.since (omega (arith, o.order, o.until)) in
    let gj : IsGood c (at j) = h.good j (omega (arith, o.since, o.order)) o.until in
    let r : (at m).reached k ≡ true = gm.inside k im ne in
    let f : KeepsFront c (at m) (at j) k = fronts-stay c at first last m j k h o r in
    let p = place (durable c (at m) k) (durable c (at j) k) _ _ _ _ _ _
    (λ i no l. gj.shown k i f.reached (front-shown (words c (at j) k) i l) ∙ (f.front i no l ∙ sym (gm.shown k i r (front-shown (words c (at m) k) i l))))
    (said c (at m) k gm ne im) (said c (at j) k gj ne ij) in
    record { level = p.0; low = p.1.0; high = p.1.1 }

pub headers : HeadersSayTheLevel
headers c x k g ne i =
    let s : Says (durable c x k) ((form_at c x).level k) ((form_at c x).low k) ((form_at c x).high k) = said c x k g ne i in
    let e : durable c x k HEADER_AT ≡ words c x k HEADER_AT = g.shown k HEADER_AT (g.inside k i ne) (front-shown (words c x k) HEADER_AT (omega arith)) in
    record { header = subst (λ w. w < 2 ^ 32) e s.header; level = ap (λ w. (header w).level) (sym e) ∙ s.level }
