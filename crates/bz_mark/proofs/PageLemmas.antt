-- One page more, and the page with a number.
use Rattle.std.proofs.Common.{◌≡◌, ◌≤◌, ◌<◌, ℕ, zero, suc, ◌+◌, ◌-◌, ◌*◌, List, [], ◌∷◌, ◌++◌, length, take, drop, get_or, refl, ap, ◌∙◌, arith, length-append, Some}
use Rattle.std.specs.Prelude.{slice_range, slice_get}
use Rattle.std.proofs.lemmas.Grind.{common_steps}
use Rattle.std.proofs.lemmas.List.{take-append-le, drop-append-le, length-take}
use Rattle.std.proofs.Math.Seq.{drop-append_seam}
use Rattle.bz_key.specs.declared.limits.TheConstants.{PAGE_PAIRS}
use Rattle.bz_mark.specs.PageLists.{pages_from, pages_in, EndAt, ArePages}

abbrev pub Pairs : Type 0
Pairs = List (List ℕ × List ℕ)

pub ends_after : (start : ℕ) (ends : List ℕ) (last : ℕ) → EndAt start ends last → start ≤ last
ends_after start [] last h = omega arith
ends_after start (end ∷ ends) last h = let rest : end ≤ last = ends_after end ends last h.2 in omega arith

-- each page has at most so many pairs
pub few_pairs : (start : ℕ) (ends : List ℕ) (last : ℕ) → EndAt start ends last → last ≤ start + length ends * PAGE_PAIRS
few_pairs start [] last h = omega arith
few_pairs start (end ∷ ends) last h = let rest : last ≤ end + length ends * PAGE_PAIRS = few_pairs end ends last h.2 in omega arith

pub count_pages : (start : ℕ) (ends : List ℕ) (pairs : Pairs) → length (pages_from start ends pairs) ≡ length ends
count_pages start [] pairs = refl
count_pages start (end ∷ ends) pairs = ap suc (count_pages end ends pairs)

range_stays : (pairs more : Pairs) (start end : ℕ) → start ≤ end → end ≤ length pairs → slice_range (pairs ++ more) start end ≡ slice_range pairs start end
range_stays pairs more start end le within =
    let rest : length (drop start pairs) ≡ length pairs - start = grind (arith, common_steps) in
    ap (take (end - start)) (drop-append-le start pairs more (omega arith)) ∙ take-append-le (end - start) (drop start pairs) more (omega arith)

-- more pairs change no page
pub pages_stay : (start : ℕ) (ends : List ℕ) (last : ℕ) (pairs more : Pairs) → EndAt start ends last → last ≤ length pairs → pages_from start ends (pairs ++ more) ≡ pages_from start ends pairs
pages_stay start [] last pairs more h within = refl
pages_stay start (end ∷ ends) last pairs more h within =
    let rest : end ≤ last = ends_after end ends last h.2 in
    ap (λ page. page ∷ pages_from end ends (pairs ++ more)) (range_stays pairs more start end h.0 (omega arith))
    ∙ ap (λ pages. slice_range pairs start end ∷ pages) (pages_stay end ends last pairs more h.2 within)

whole_range : (pairs more : Pairs) (start end : ℕ) → start ≡ length pairs → end ≡ length (pairs ++ more) → slice_range (pairs ++ more) start end ≡ more
whole_range pairs more start end s e =
    let count : end - start ≡ length more = omega (arith, e, length-append pairs more) in
    rw (s) (ap (take (end - length pairs)) (drop-append_seam pairs more) ∙ grind (arith, common_steps, s, count))

pub page_added : (start : ℕ) (ends : List ℕ) (last end : ℕ) (pairs more : Pairs) → EndAt start ends last → last ≡ length pairs → end ≡ length (pairs ++ more)
    → pages_from start (ends ++ end ∷ []) (pairs ++ more) ≡ pages_from start ends pairs ++ more ∷ []
page_added start [] last end pairs more h is e = ap (λ page. page ∷ []) (whole_range pairs more start end (h ∙ is) e)
page_added start (next ∷ ends) last end pairs more h is e =
    let rest : next ≤ last = ends_after next ends last h.2 in
    ap (λ page. page ∷ pages_from next (ends ++ end ∷ []) (pairs ++ more)) (range_stays pairs more start next h.0 (omega arith))
    ∙ ap (λ pages. slice_range pairs start next ∷ pages) (page_added next ends last end pairs more h.2 is e)

pub end_added : (start : ℕ) (ends : List ℕ) (last end : ℕ) → EndAt start ends last → last ≤ end → end ≤ last + PAGE_PAIRS → EndAt start (ends ++ end ∷ []) end
end_added start [] last end h le few = (omega arith, omega arith, refl)
end_added start (next ∷ ends) last end h le few = (h.0, h.1, end_added next ends last end h.2 le few)

-- where the page with a number begins and ends
pub record StandsAt (start : ℕ) (ends : List ℕ) (last p : ℕ) (pairs : Pairs) : Type 0 where
  pub rises : get_or (start ∷ ends) p 0 ≤ get_or ends p 0
  pub few : get_or ends p 0 ≤ get_or (start ∷ ends) p 0 + PAGE_PAIRS
  pub within : get_or ends p 0 ≤ last
  pub is : slice_get (pages_from start ends pairs) p ≡ Some (slice_range pairs (get_or (start ∷ ends) p 0) (get_or ends p 0))

pub page_stands : (start : ℕ) (ends : List ℕ) (last p : ℕ) (pairs : Pairs) → EndAt start ends last → p < length ends → StandsAt start ends last p pairs
page_stands start [] last p pairs h lt = absurd (omega arith)
page_stands start (end ∷ ends) last zero pairs h lt = record { rises = h.0; few = h.1; within = ends_after end ends last h.2; is = refl }
page_stands start (end ∷ ends) last (suc p) pairs h lt =
    let rest = page_stands end ends last p pairs h.2 (omega arith) in
    record { rises = rest.rises; few = rest.few; within = rest.within; is = rest.is }

-- the same of bounds
pub bounds_count : (bounds : List ℕ) (last : ℕ) (pairs : Pairs) → ArePages bounds last → length bounds ≡ length (pages_in bounds pairs) + 1
bounds_count [] last pairs h = absurd h
bounds_count (start ∷ ends) last pairs h = omega (arith, count_pages start ends pairs)

pub bounds_few : (bounds : List ℕ) (last : ℕ) (pairs : Pairs) → ArePages bounds last → last ≤ length (pages_in bounds pairs) * PAGE_PAIRS
bounds_few [] last pairs h = absurd h
bounds_few (start ∷ ends) last pairs h = rw (count_pages start ends pairs) (omega (arith, few_pairs start ends last h.1, h.0))

pub bounds_pages : (bounds : List ℕ) (end : ℕ) (pairs more : Pairs) → ArePages bounds (length pairs) → end ≡ length (pairs ++ more) → pages_in (bounds ++ end ∷ []) (pairs ++ more) ≡ pages_in bounds pairs ++ more ∷ []
bounds_pages [] end pairs more h e = absurd h
bounds_pages (start ∷ ends) end pairs more h e = page_added start ends (length pairs) end pairs more h.1 refl e

pub bounds_more : (bounds : List ℕ) (last end : ℕ) → ArePages bounds last → last ≤ end → end ≤ last + PAGE_PAIRS → ArePages (bounds ++ end ∷ []) end
bounds_more [] last end h le few = absurd h
bounds_more (start ∷ ends) last end h le few = (h.0, end_added start ends last end h.1 le few)

pub record StandsIn (bounds : List ℕ) (last p : ℕ) (pairs : Pairs) : Type 0 where
  pub rises : get_or bounds p 0 ≤ get_or bounds (p + 1) 0
  pub few : get_or bounds (p + 1) 0 ≤ get_or bounds p 0 + PAGE_PAIRS
  pub within : get_or bounds (p + 1) 0 ≤ last
  pub is : slice_get (pages_in bounds pairs) p ≡ Some (slice_range pairs (get_or bounds p 0) (get_or bounds (p + 1) 0))

next_bound : (start : ℕ) (ends : List ℕ) (p : ℕ) → get_or (start ∷ ends) (p + 1) 0 ≡ get_or ends p 0
next_bound start ends p = grind (arith, common_steps)

pub page_in : (bounds : List ℕ) (last p : ℕ) (pairs : Pairs) → ArePages bounds last → p < length (pages_in bounds pairs) → StandsIn bounds last p pairs
page_in [] last p pairs h lt = absurd h
page_in (start ∷ ends) last p pairs h lt =
    let stands = page_stands start ends last p pairs h.1 (rw (count_pages start ends pairs) at lt) in
    let next = next_bound start ends p in
    record { rises = rw next stands.rises; few = rw next stands.few; within = rw next stands.within; is = rw next stands.is }

-- the part between the bounds of a page is the page
pub part_is : (bounds : List ℕ) (last p start end : ℕ) (list part pairs : Pairs) → StandsIn bounds last p pairs → start ≡ get_or bounds p 0 → end ≡ get_or bounds (p + 1) 0
    → list ≡ pairs → part ≡ slice_range list start end → slice_get (pages_in bounds pairs) p ≡ Some part
part_is bounds last p start end list part pairs h s e l is = rw (is, l, s, e) h.is

pub part_few : (bounds : List ℕ) (last p start end : ℕ) (list part pairs : Pairs) → StandsIn bounds last p pairs → start ≡ get_or bounds p 0 → end ≡ get_or bounds (p + 1) 0
    → part ≡ slice_range list start end → length part ≤ PAGE_PAIRS
part_few bounds last p start end list part pairs h s e is =
    let few : end - start ≤ PAGE_PAIRS = omega (arith, h.few) in
    rw (is, length-take (end - start) (drop start list)) (omega arith)
