-- Sorted pairs that answer each key of a range as the image does are the page of that range.
use Rattle.std.proofs.Common.{◌≡◌, ℕ, true, List, [], ◌∷◌, ◌++◌, length, refl, sym, ap, ◌∙◌, subst, Option, Some, None, cond}
use Rattle.std.specs.Prelude.{T, slice_get, if◌then◌else◌}
use Rattle.std.specs.declared.cmp.Ordering.TheVariants.{Equal}
use Rattle.std.specs.Ordering.{nat_cmp}
use Rattle.std.specs.Cmp.Lexicographic.{slice_cmp, nat_list_cmp_total}
use Rattle.std.specs.FinMap.{find, is_sorted, get, entries, entries_sorted, get-entries, slice_cmp-IsAntisymmetric, nat_cmp-IsAntisymmetric}
use Rattle.std.specs.FinMap.Entries.{is_sorted-where_key, find-where_key, same_entries}
use Rattle.bz_layout.specs.declared.config.Config.{Config}
use Rattle.bz_call.specs.Map.{Map}
use Rattle.bz_call.specs.declared.calls.Call.TheVariants as call
use Rattle.bz_call.specs.declared.replies.Reply.TheVariants.{Page}
use Rattle.bz_call.specs.declared.replies.Spent.{Spent}
use Rattle.bz_mark.specs.Log.{Log, count_page_ends}
use Rattle.bz_mark.specs.Moments.{at_moment}
use Rattle.bz_sound.specs.Calls.{Open, map_at}
use Rattle.bz_sound.specs.Memory.ImageLaws.{ReadsAt, IsImagePage, PagesComeFromTheImage}
use Rattle.bz_sound.specs.Memory.Moments.{image_at, map_at_start, Decodes}
use Rattle.bz_sound.specs.Memory.Replies.{IsAnswerBy, IsRightReplyBy, is_within, pairs_within}
use Rattle.bz_sound.specs.Memory.Spent.{IsSpent}
use Rattle.bz_sound.proofs.Memory.Reads.{has-content}
use Rattle.bz_sound.proofs.Memory.Settled.{loads-settled}

-- only a key itself ties with it
same-test : (from : List ℕ) (next : Option (List ℕ)) (key other : List ℕ) → slice_cmp nat_cmp key other ≡ Equal → is_within from next other ≡ is_within from next key
same-test from next key other tied = ap (is_within from next) (sym (slice_cmp-IsAntisymmetric nat_cmp-IsAntisymmetric key other tied))

-- two sorted lists that find alike are one
pub same-pairs : (map : Map) (from : List ℕ) (next : Option (List ℕ)) (pairs : List (List ℕ × List ℕ)) → is_sorted (slice_cmp nat_cmp) pairs ≡ true
    → ((key : List ℕ) → find (slice_cmp nat_cmp) key pairs ≡ (if is_within from next key then get map key else None)) → pairs ≡ pairs_within map from next
same-pairs map from next pairs rises finds =
    same_entries (slice_cmp nat_cmp) nat_list_cmp_total (slice_cmp-IsAntisymmetric nat_cmp-IsAntisymmetric) pairs (pairs_within map from next) (subst T (sym rises) tt)
    (is_sorted-where_key (slice_cmp nat_cmp) (is_within from next) (entries map) (entries_sorted map))
    (λ key. finds key ∙ ap (λ (found : Option (List ℕ)). cond (is_within from next key) found None) (get-entries map key)
    ∙ sym (find-where_key (slice_cmp nat_cmp) (is_within from next) key (λ other tied. same-test from next key other tied) (entries map)))

-- the page that is added has the next number
pub last-page : {A : Type 0} (pages : List A) (page : A) → slice_get (pages ++ page ∷ []) (length pages) ≡ Some page
last-page [] page = refl
last-page (first ∷ pages) page = last-page pages page

pub pages-by : (Cause : Spent → Type 0) (c : Config) (log : Log) (w at : ℕ) (opened : Open) (from : List ℕ) (next : Option (List ℕ)) (pairs : List (List ℕ × List ℕ))
    → Decodes c log.start (at_moment at log.past) → length log.pages ≡ count_page_ends log.past → ReadsAt log.past w opened at → opened.call ≡ call.Page from
    → IsImagePage c (image_at log.start at log.past) from next pairs
    → IsRightReplyBy Cause c log.start (log.pages ++ pairs ∷ []) log.past (record { worker = w; opened = opened; reply = Page (length log.pages) next; at = at })
pages-by Cause c log w at opened from next pairs decodes count reads asked is = record {
  after_begin = reads.after_begin;
  before_end = reads.before_end;
  right = subst (λ (effect : Option ℕ). IsAnswerBy Cause c log.start (log.pages ++ pairs ∷ []) log.past (record { worker = w; opened = opened; reply = Page (length log.pages) next; at = at }) effect (Page (length log.pages) next)) (sym reads.quiet)
      (record {
        from = from;
        asked = asked;
        loaded = reads.loaded;
        leaf_end = is.leaf_end;
        pairs = last-page log.pages pairs ∙ ap Some (same-pairs map from next pairs is.rises finds);
        number = count;
      });
}
  where
    map : Map
    map = map_at (map_at_start c log.start) at log.past

    finds : (key : List ℕ) → find (slice_cmp nat_cmp) key pairs ≡ (if is_within from next key then get map key else None)
    finds key = is.finds key ∙ ap (λ (found : Option (List ℕ)). cond (is_within from next key) found None) (has-content c log at decodes key)

pub image-pages : PagesComeFromTheImage
image-pages c log w at opened from next pairs sound reads asked is =
    pages-by (IsSpent c log.start log.past w opened) c log w at opened from next pairs (loads-settled c log w at sound reads.before_end reads.loaded) sound.pages reads asked is
