-- The head of an image, read and written.
use Rattle.std.proofs.Common.{◌≡◌, ◌≤◌, ℕ, ◌+◌, ◌-◌, Bool, true, List, ◌++◌, length, take, drop, refl, sym, ap, ◌∙◌, Result, Ok, Err, arith, length-append, take_all}
use Rattle.std.specs.Prelude.{◌==◌, nat_lt, bytes_eq, if◌then◌else◌}
use Rattle.std.proofs.Math.Seq.{take-add}
use Rattle.std.proofs.lemmas.Bool.Decides.{nat_tests}
use Rattle.std.proofs.lemmas.List.{length-drop, drop-append-le, take-append-le}
use Rattle.std.proofs.lemmas.Slice.Eq.{bytes_eq-Decides}
use Rattle.byteorder.specs.Endian.{little_number, little_bytes}
use Rattle.byteorder.specs.Numbers.{little_number-reads_back, little_from-append}
use Rattle.bz_image.specs.declared.image.Head.{Head}
use Rattle.bz_image.specs.declared.fault.ImageFault.{ImageFault}
use Rattle.bz_image.specs.declared.fault.ImageFault.TheVariants.{Short, Magic, Version}
use Rattle.bz_image.specs.declared.form.TheConstants.{VERSION}
use Rattle.bz_image.specs.Form.{magic, bytes_of_head, AreSizes}
use Rattle.bz_image.specs.Reads.{number_at, sizes_of, head_of}
use Rattle.bz_image.specs.Laws.{AreBytes}
use Rattle.bz_image.proofs.WordLemmas.{bytes_again, bytes-drop}

-- what a head is, by the length of the bytes, its magic bytes, its version and its numbers
abbrev pub head_by : ℕ → Bool → ℕ → ℕ → ℕ → Result Head ImageFault
head_by long is_magic version nodes swaps =
    if nat_lt long 20 then Err Short
    else if is_magic then (if version == VERSION then sizes_of nodes swaps else Err Version) else Err Magic

pub by_good : (long : ℕ) (is_magic : Bool) (version nodes swaps : ℕ) → 20 ≤ long → is_magic ≡ true → version ≡ VERSION → AreSizes nodes swaps → head_by long is_magic version nodes swaps ≡ Ok (record { nodes = nodes; swaps = swaps })
by_good long is_magic version nodes swaps enough good known fit =
    grind (arith, nat_tests, fit.some_nodes, fit.nodes_fit, fit.some_swaps, fit.swaps_fit)

-- a head that is written reads back
pub head_reads : (nodes swaps : ℕ) (rest : List ℕ) → AreSizes nodes swaps → head_of (bytes_of_head nodes swaps ++ rest) ≡ Ok (record { nodes = nodes; swaps = swaps })
head_reads nodes swaps rest fit =
    let bytes : List ℕ = bytes_of_head nodes swaps ++ rest in
    let n : number_at 12 (bytes_of_head nodes swaps ++ rest) ≡ nodes = little_number-reads_back 4 nodes (little_bytes 4 swaps ++ rest) (omega (arith, fit.nodes_fit)) in
    let s : number_at 16 (bytes_of_head nodes swaps ++ rest) ≡ swaps = little_number-reads_back 4 swaps rest (omega (arith, fit.swaps_fit)) in
    ap (λ (i : ℕ). head_by (length (bytes_of_head nodes swaps ++ rest)) true VERSION i (number_at 16 (bytes_of_head nodes swaps ++ rest))) n
    ∙ ap (λ (i : ℕ). head_by (length (bytes_of_head nodes swaps ++ rest)) true VERSION nodes i) s
    ∙ by_good (length (bytes_of_head nodes swaps ++ rest)) true VERSION nodes swaps (omega arith) refl refl fit

-- what a good head says of the bytes
pub record Good (bytes : List ℕ) (head : Head) : Type 0 where
  pub enough : 20 ≤ length bytes
  pub is_magic : bytes_eq (take 8 bytes) magic ≡ true
  pub version : number_at 8 bytes ≡ VERSION
  pub nodes : number_at 12 bytes ≡ head.nodes
  pub swaps : number_at 16 bytes ≡ head.swaps
  pub fit : AreSizes head.nodes head.swaps

record By (long : ℕ) (is_magic : Bool) (version nodes swaps : ℕ) (head : Head) : Type 0 where
  enough : 20 ≤ long
  good : is_magic ≡ true
  known : version ≡ VERSION
  nodes_are : nodes ≡ head.nodes
  swaps_are : swaps ≡ head.swaps
  some_nodes : 1 ≤ nodes
  nodes_fit : nodes ≤ 16384
  some_swaps : 1 ≤ swaps
  swaps_fit : swaps ≤ 65536

by_parts : (long : ℕ) (is_magic : Bool) (version nodes swaps : ℕ) (head : Head) → head_by long is_magic version nodes swaps ≡ Ok head → By long is_magic version nodes swaps head
by_parts long is_magic version nodes swaps head is = record {
  enough = grind (arith, nat_tests);
  good = grind (arith, nat_tests);
  known = grind (arith, nat_tests);
  nodes_are = grind (arith, nat_tests);
  swaps_are = grind (arith, nat_tests);
  some_nodes = grind (arith, nat_tests);
  nodes_fit = grind (arith, nat_tests);
  some_swaps = grind (arith, nat_tests);
  swaps_fit = grind (arith, nat_tests);
}

pub head_good : (bytes : List ℕ) (head : Head) → head_of bytes ≡ Ok head → Good bytes head
head_good bytes head is =
    let by = by_parts (length bytes) (bytes_eq (take 8 bytes) magic) (number_at 8 bytes) (number_at 12 bytes) (number_at 16 bytes) head is in
    record {
      enough = by.enough;
      is_magic = by.good;
      version = by.known;
      nodes = by.nodes_are;
      swaps = by.swaps_are;
      fit = record {
        some_nodes = omega (arith, by.nodes_are, by.some_nodes);
        nodes_fit = omega (arith, by.nodes_are, by.nodes_fit);
        some_swaps = omega (arith, by.swaps_are, by.some_swaps);
        swaps_fit = omega (arith, by.swaps_are, by.swaps_fit);
      };
    }

-- four bytes of a number
four_again : (place n : ℕ) (bytes : List ℕ) → place + 4 ≤ length bytes → AreBytes bytes → number_at place bytes ≡ n → take 4 (drop place bytes) ≡ little_bytes 4 n
four_again place n bytes long are is =
    sym (bytes_again 4 (drop place bytes) (omega (arith, length-drop place bytes)) (bytes-drop place bytes are)) ∙ ap (little_bytes 4) is

more_bytes : (place : ℕ) (bytes front back : List ℕ) → take place bytes ≡ front → take 4 (drop place bytes) ≡ back → take (place + 4) bytes ≡ front ++ back
more_bytes place bytes front back first next =
    take-add place 4 bytes ∙ ap (λ (ys : List ℕ). ys ++ take 4 (drop place bytes)) first ∙ ap (λ (ys : List ℕ). front ++ ys) next

-- the bytes of a good head are what is written of it
pub head_again : (bytes : List ℕ) (head : Head) → AreBytes bytes → Good bytes head → take 20 bytes ≡ bytes_of_head head.nodes head.swaps
head_again bytes head are good =
    let first : take 8 bytes ≡ magic = grind (arith, bytes_eq-Decides, good.is_magic) in
    let version : take 4 (drop 8 bytes) ≡ little_bytes 4 VERSION = four_again 8 VERSION bytes (omega (arith, good.enough)) are good.version in
    let nodes : take 4 (drop 12 bytes) ≡ little_bytes 4 head.nodes = four_again 12 head.nodes bytes (omega (arith, good.enough)) are good.nodes in
    let swaps : take 4 (drop 16 bytes) ≡ little_bytes 4 head.swaps = four_again 16 head.swaps bytes (omega (arith, good.enough)) are good.swaps in
    let twelve : take 12 bytes ≡ magic ++ little_bytes 4 VERSION = more_bytes 8 bytes _ _ first version in
    let sixteen : take 16 bytes ≡ (magic ++ little_bytes 4 VERSION) ++ little_bytes 4 head.nodes = more_bytes 12 bytes _ _ twelve nodes in
    more_bytes 16 bytes _ _ sixteen swaps

-- a number that is read from a place on
pub read_there : (place : ℕ) (bytes : List ℕ) → little_number 4 (take (length bytes - place) (drop place bytes)) ≡ number_at place bytes
read_there place bytes = ap (little_number 4) (take_all (length bytes - place) (drop place bytes) (omega (arith, length-drop place bytes)))

-- a head reads no byte behind it
number_alone : (place : ℕ) (bytes rest : List ℕ) → place + 4 ≤ length bytes → number_at place (bytes ++ rest) ≡ number_at place bytes
number_alone place bytes rest inside =
    ap (little_number 4) (drop-append-le place bytes rest (omega (arith, inside))) ∙ little_from-append 4 (drop place bytes) rest (omega (arith, length-drop place bytes, inside))

by_enough : (long more : ℕ) (is_magic : Bool) (version nodes swaps : ℕ) → 20 ≤ long → 20 ≤ more → head_by more is_magic version nodes swaps ≡ head_by long is_magic version nodes swaps
by_enough long more is_magic version nodes swaps enough also = grind (arith, nat_tests)

pub head_alone : (bytes rest : List ℕ) → 20 ≤ length bytes → head_of (bytes ++ rest) ≡ head_of bytes
head_alone bytes rest enough =
    let first : take 8 (bytes ++ rest) ≡ take 8 bytes = take-append-le 8 bytes rest (omega (arith, enough)) in
    let version : number_at 8 (bytes ++ rest) ≡ number_at 8 bytes = number_alone 8 bytes rest (omega (arith, enough)) in
    let nodes : number_at 12 (bytes ++ rest) ≡ number_at 12 bytes = number_alone 12 bytes rest (omega (arith, enough)) in
    let swaps : number_at 16 (bytes ++ rest) ≡ number_at 16 bytes = number_alone 16 bytes rest (omega (arith, enough)) in
    ap (λ (xs : List ℕ). head_by (length (bytes ++ rest)) (bytes_eq xs magic) (number_at 8 (bytes ++ rest)) (number_at 12 (bytes ++ rest)) (number_at 16 (bytes ++ rest))) first
    ∙ ap (λ (i : ℕ). head_by (length (bytes ++ rest)) (bytes_eq (take 8 bytes) magic) i (number_at 12 (bytes ++ rest)) (number_at 16 (bytes ++ rest))) version
    ∙ ap (λ (i : ℕ). head_by (length (bytes ++ rest)) (bytes_eq (take 8 bytes) magic) (number_at 8 bytes) i (number_at 16 (bytes ++ rest))) nodes
    ∙ ap (λ (i : ℕ). head_by (length (bytes ++ rest)) (bytes_eq (take 8 bytes) magic) (number_at 8 bytes) (number_at 12 bytes) i) swaps
    ∙ by_enough (length bytes) (length (bytes ++ rest)) (bytes_eq (take 8 bytes) magic) (number_at 8 bytes) (number_at 12 bytes) (number_at 16 bytes) enough (omega (arith, length-append bytes rest, enough))

pub head_sizes : (bytes : List ℕ) (head : Head) → head_of bytes ≡ Ok head → AreSizes head.nodes head.swaps
head_sizes bytes head is = (head_good bytes head is).fit
