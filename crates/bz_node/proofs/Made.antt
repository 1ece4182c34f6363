-- The words of a node made whole, read back part by part.
use Rattle.std.specs.Prelude.{◌≡◌, ℕ, suc, ◌+◌, ◌-◌, ◌<◌, ◌≤◌, ◌^◌, List, ◌∷◌, [], ◌++◌, length, map, take, drop, get_or, replicate, All, Option, Some, None}
use Rattle.std.proofs.Common.{arith, refl, ap, sym, ◌∙◌, subst}
use Rattle.std.proofs.lemmas.List.{length-append, append_assoc, length-replicate, take_at, drop_at, append-nil, length-map, get_or-drop, get_or_append_left, get_or-map}
use Rattle.std.proofs.lemmas.List.Elements.{All-nil, All-cons}
use Rattle.bz_key.specs.Packing.{packed}
use Rattle.bz_key.proofs.PackingLaws.{length-packed}
use Rattle.bz_key.specs.declared.limits.TheConstants.{KEY_BYTES}
use Rattle.bz_layout.specs.declared.sizes.TheConstants.{NODE_WORDS, SHARED_WORDS, META_AT, FENCE_WORDS, LOW_FENCE_AT, HIGH_FENCE_AT}
use Rattle.bz_word.proofs.Lemmas.{metas, statuses, headers}
use Rattle.bz_word.specs.Metas.{meta, IsMetaWord}
use Rattle.bz_word.specs.Statuses.{status_word}
use Rattle.bz_word.specs.Headers.{header_word}
use Rattle.bz_word.specs.declared.status.Status.{Status}
use Rattle.bz_word.specs.declared.meta.Extent.{Extent}
use Rattle.bz_word.specs.declared.meta.Meta.TheVariants.{Visible, Unused}
use Rattle.bz_node.specs.Layout.{Entry, IsEntry, block, metas as metas_of, visible_word, needed, shared_part, bound_of, fence_words, made_status, made_header, node_words}
use Rattle.bz_node.specs.Reading.{count_in, meta_in, metas_in, part, IsReadable}
use Rattle.bz_node.specs.Laws.{HasFront}
use Rattle.bz_node.specs.Records.{IsBound}
use Rattle.bz_node.proofs.Parts.{length-metas}
use Rattle.bz_node.proofs.ReadWords.{length-metas_in, get_or-metas_in}

-- a part of three
pub part_at : (P Q R : List ℕ) (at n : ℕ) → length P ≡ at → length Q ≡ n → part (P ++ (Q ++ R)) at n ≡ Q
part_at P Q R at n p q =
    let width : at + n - at ≡ n = omega arith in
    rw (drop_at P (Q ++ R) at p, width) (take_at Q R n q)

pub bound-fits : (bound : Option (List ℕ)) → IsBound bound → length (bound_of bound) ≤ KEY_BYTES
bound-fits None h = omega arith
bound-fits (Some key) h = h.fits

pub length-fence : (fence : Option (List ℕ)) → length (bound_of fence) ≤ KEY_BYTES → length (fence_words fence) ≡ FENCE_WORDS
length-fence fence fits =
    omega (arith, length-append (packed (bound_of fence)) (replicate (FENCE_WORDS - length (packed (bound_of fence))) 0), length-replicate {A = ℕ} (FENCE_WORDS - length (packed (bound_of fence))) 0, length-packed (bound_of fence))

pub length-shared : (entries : List Entry) → needed entries ≤ SHARED_WORDS → length (shared_part entries) ≡ SHARED_WORDS
length-shared entries fits =
    omega (
      arith,
      length-append (metas_of NODE_WORDS entries) (replicate (SHARED_WORDS - needed entries) 0 ++ block entries),
      length-append (replicate (SHARED_WORDS - needed entries) 0) (block entries),
      length-replicate {A = ℕ} (SHARED_WORDS - needed entries) 0,
      length-metas NODE_WORDS entries,
    )

-- the front of a node, over any two fences and shared words of their lengths
front_read : (s h : ℕ) (L H S : List ℕ) → length L ≡ FENCE_WORDS → length H ≡ FENCE_WORDS → length S ≡ SHARED_WORDS →
    (length ((s ∷ h ∷ (L ++ H)) ++ S) ≡ NODE_WORDS) × (part ((s ∷ h ∷ (L ++ H)) ++ S) LOW_FENCE_AT FENCE_WORDS ≡ L) × (part ((s ∷ h ∷ (L ++ H)) ++ S) HIGH_FENCE_AT FENCE_WORDS ≡ H) × (drop META_AT ((s ∷ h ∷ (L ++ H)) ++ S) ≡ S)
front_read s h L H S l k n =
    let front : length (s ∷ h ∷ (L ++ H)) ≡ META_AT = omega (arith, length-append L H) in
    let first : (s ∷ h ∷ (L ++ H)) ++ S ≡ (s ∷ h ∷ []) ++ (L ++ (H ++ S)) = rw (append_assoc L H S) refl in
    let second : (s ∷ h ∷ (L ++ H)) ++ S ≡ (s ∷ h ∷ L) ++ (H ++ S) = rw (append_assoc L H S) refl in (
      omega (arith, length-append (s ∷ h ∷ (L ++ H)) S),
      rw first (part_at (s ∷ h ∷ []) L (H ++ S) LOW_FENCE_AT FENCE_WORDS refl l),
      rw second (part_at (s ∷ h ∷ L) H S HIGH_FENCE_AT FENCE_WORDS (omega (arith, l)) k),
      drop_at (s ∷ h ∷ (L ++ H)) S META_AT front,
    )

pub front_made : (level : ℕ) (low high : Option (List ℕ)) (entries : List Entry) → level < 2 ^ 8 → IsBound low → IsBound high → needed entries ≤ SHARED_WORDS →
    HasFront (node_words level low high entries) level low high entries
front_made level low high entries small low_ok high_ok fits =
    let read = front_read (status_word (made_status entries)) (header_word (made_header level low high entries)) (fence_words low) (fence_words high) (shared_part entries)
    (length-fence low (bound-fits low low_ok)) (length-fence high (bound-fits high high_ok)) (length-shared entries fits) in
    let l = bound-fits low low_ok in
    let h = bound-fits high high_ok in
    record {
      size = read.0;
      status = statuses.value (made_status entries) (record { count = omega arith; block = omega arith; dead = omega arith; stamp = omega arith });
      header = headers.value (made_header level low high entries) (record { level = small; low = omega arith; high = omega arith; sorted = omega arith });
      low_fence = read.1;
      high_fence = read.2;
    }

pub rest_made : (level : ℕ) (low high : Option (List ℕ)) (entries : List Entry) → IsBound low → IsBound high → needed entries ≤ SHARED_WORDS → drop META_AT (node_words level low high entries) ≡ shared_part entries
rest_made level low high entries low_ok high_ok fits =
    (front_read (status_word (made_status entries)) (header_word (made_header level low high entries)) (fence_words low) (fence_words high) (shared_part entries)
    (length-fence low (bound-fits low low_ok)) (length-fence high (bound-fits high high_ok)) (length-shared entries fits)).3

-- all of a node but its block
abbrev pub before_block : ℕ → Option (List ℕ) → Option (List ℕ) → List Entry → List ℕ
before_block level low high entries =
    (status_word (made_status entries) ∷ header_word (made_header level low high entries) ∷ (fence_words low ++ fence_words high))
    ++ (metas_of NODE_WORDS entries ++ replicate (SHARED_WORDS - needed entries) 0)

pub block_made : (level : ℕ) (low high : Option (List ℕ)) (entries : List Entry) → node_words level low high entries ≡ before_block level low high entries ++ (block entries ++ [])
block_made level low high entries =
    let M = metas_of NODE_WORDS entries in
    let Z : List ℕ = replicate (SHARED_WORDS - needed entries) 0 in
    let F : List ℕ = status_word (made_status entries) ∷ header_word (made_header level low high entries) ∷ (fence_words low ++ fence_words high) in
    rw (append-nil (block entries)) (ap (λ xs. F ++ xs) (sym (append_assoc M Z (block entries))) ∙ sym (append_assoc F (M ++ Z) (block entries)))

pub count_made : (level : ℕ) (low high : Option (List ℕ)) (entries : List Entry) → needed entries ≤ SHARED_WORDS → count_in (node_words level low high entries) ≡ length entries
count_made level low high entries fits =
    ap (λ (s : Status). s.count) (statuses.value (made_status entries) (record { count = omega arith; block = omega arith; dead = omega arith; stamp = omega arith }))

-- the extents of the records whose block ends at `end`
unfoldable pub extents : ℕ → List Entry → List Extent
extents end [] = []
extents end (e ∷ entries) = record { offset = end - length e.words; key = e.key; total = e.total } ∷ extents (end - length e.words) entries

-- the metadata words say the extents
pub metas_say : (end : ℕ) (entries : List Entry) → end ≤ NODE_WORDS → length (block entries) < end → All IsEntry entries → map meta (metas_of end entries) ≡ map Visible (extents end entries)
unfolding metas_of extents block
metas_say end [] small room each = refl
metas_say end (e ∷ entries) small room each =
    let fits : IsEntry e = each 0 e (omega arith) in
    let long = length-append (block entries) e.words in
    let rest : All IsEntry entries = λ k d within. each (suc k) d (omega arith) in
    let here : meta (visible_word (end - length e.words) e) ≡ Visible (record { offset = end - length e.words; key = e.key; total = e.total }) =
    metas.value (Visible (record { offset = end - length e.words; key = e.key; total = e.total })) (record { offset = omega arith; start = omega arith; key = fits.key; total = fits.total }) in
    rw (here, metas_say (end - length e.words) entries (omega arith) (omega arith) rest) refl

pub metas_made : (level : ℕ) (low high : Option (List ℕ)) (entries : List Entry) → IsBound low → IsBound high → needed entries ≤ SHARED_WORDS → All IsEntry entries →
    metas_in (node_words level low high entries) ≡ map Visible (extents NODE_WORDS entries)
metas_made level low high entries low_ok high_ok fits each =
    let words = node_words level low high entries in
    ap (λ n. map meta (take n (drop META_AT words))) (count_made level low high entries fits)
    ∙ ap (λ xs. map meta (take (length entries) xs)) (rest_made level low high entries low_ok high_ok fits)
    ∙ ap (map meta) (take_at (metas_of NODE_WORDS entries) (replicate (SHARED_WORDS - needed entries) 0 ++ block entries) (length entries) (length-metas NODE_WORDS entries))
    ∙ metas_say NODE_WORDS entries (omega arith) (omega (arith, fits)) each

-- and are lawful
metas_lawful : (end : ℕ) (entries : List Entry) → end ≤ NODE_WORDS → length (block entries) < end → All IsEntry entries → All IsMetaWord (metas_of end entries)
unfolding metas_of block
metas_lawful end [] small room each = All-nil IsMetaWord
metas_lawful end (e ∷ entries) small room each =
    let fits : IsEntry e = each 0 e (omega arith) in
    let long = length-append (block entries) e.words in
    let rest : All IsEntry entries = λ k d within. each (suc k) d (omega arith) in
    let here : IsMetaWord (visible_word (end - length e.words) e) =
    metas.lawful (Visible (record { offset = end - length e.words; key = e.key; total = e.total })) (record { offset = omega arith; start = omega arith; key = fits.key; total = fits.total }) in
    All-cons IsMetaWord (visible_word (end - length e.words) e) (metas_of (end - length e.words) entries) here (metas_lawful (end - length e.words) entries (omega arith) (omega arith) rest)

pub readable_made : (level : ℕ) (low high : Option (List ℕ)) (entries : List Entry) → IsBound low → IsBound high → needed entries ≤ SHARED_WORDS → All IsEntry entries →
    IsReadable (node_words level low high entries)
readable_made level low high entries low_ok high_ok fits each =
    let count = count_made level low high entries fits in
    let rest = rest_made level low high entries low_ok high_ok fits in
    let lawful = metas_lawful NODE_WORDS entries (omega arith) (omega (arith, fits)) each in
    let long = length-metas NODE_WORDS entries in
    let M = metas_of NODE_WORDS entries in
    let Z : List ℕ = replicate (SHARED_WORDS - needed entries) 0 in
    record {
      status = statuses.lawful (made_status entries) (record { count = omega arith; block = omega arith; dead = omega arith; stamp = omega arith });
      room = omega (arith, count);
      metas = λ i within. (
          let below : i < length M = omega (arith, count, long) in
          let word : get_or (node_words level low high entries) (META_AT + i) 0 ≡ get_or M i 0 =
          sym (get_or-drop META_AT (node_words level low high entries) i 0) ∙ ap (λ ys. get_or ys i 0) rest ∙ get_or_append_left M (Z ++ block entries) 0 i below in
          subst IsMetaWord (sym word) (lawful i 0 below));
    }

-- what the metadata word at a place says
pub meta_made : (W : List ℕ) (xs : List Extent) → length W ≡ NODE_WORDS → count_in W ≤ SHARED_WORDS → metas_in W ≡ map Visible xs →
    (i : ℕ) (e : Extent) → i < count_in W → (i < length xs) × (meta_in W i ≡ Visible (get_or xs i e))
meta_made W xs whole room metas i e within =
    let long : length xs ≡ count_in W = sym (length-map xs Visible) ∙ sym (ap length metas) ∙ length-metas_in W whole room in
    let inside : i < length xs = omega (arith, long) in
    (inside, sym (get_or-metas_in W i Unused whole room within) ∙ ap (λ ms. get_or ms i Unused) metas ∙ get_or-map Visible xs i e Unused inside)

pub place_made : (W : List ℕ) (xs : List Extent) → length W ≡ NODE_WORDS → count_in W ≤ SHARED_WORDS → metas_in W ≡ map Visible xs →
    (i : ℕ) (e : Extent) → i < count_in W → meta_in W i ≡ Visible e → (i < length xs) × (get_or xs i e ≡ e)
place_made W xs whole room metas i e within is =
    let p = meta_made W xs whole room metas i e within in
    let same : Visible (get_or xs i e) ≡ Visible e = sym p.1 ∙ is in
    (p.0, cc)

-- the words of a node parted at its first record, and at those after it
pub split_first : (W A X K B : List ℕ) → W ≡ A ++ ((X ++ K) ++ B) → W ≡ (A ++ X) ++ (K ++ B)
split_first W A X K B is = is ∙ ap (λ xs. A ++ xs) (append_assoc X K B) ∙ sym (append_assoc A X (K ++ B))

pub split_rest : (W A X K B : List ℕ) → W ≡ A ++ ((X ++ K) ++ B) → W ≡ A ++ (X ++ (K ++ B))
split_rest W A X K B is = is ∙ ap (λ xs. A ++ xs) (append_assoc X K B)
