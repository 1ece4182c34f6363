-- What this crate proves, as lemmas that other crates cite by these names.
use Rattle.std.proofs.Common.{arith}
use Rattle.bz_image.proofs.FaultLemmas.{head_found, head_told}
use Rattle.bz_image.proofs.FileLemmas.{file_fault, file_found, front_fault, front_found}
use Rattle.bz_image.proofs.HeadLemmas.{head_alone}
use Rattle.bz_image.proofs.ImageLemmas.{front_reads, front_written, image_reads, image_written}
use Rattle.bz_image.specs.Laws.{FaultsAreFirst, FrontsAreWritten, FrontsReadBack, HeadsStandAlone, ImagesAreWritten, ImagesReadBack, MemoriesAreSized}

-- what is written of an image reads back as it
pub images_read_back : ImagesReadBack
images_read_back = image_reads

-- so it does at the front, whatever stands behind it
pub fronts_read_back : FrontsReadBack
fronts_read_back = front_reads

-- bytes that read as an image are what is written of it
pub images_are_written : ImagesAreWritten
images_are_written = image_written

-- at the front, those that its length counts are what is written of it
pub fronts_are_written : FrontsAreWritten
fronts_are_written = front_written

-- a fault is told exactly where its rule is the first that is broken: of a head, of a front and of a file
pub faults_are_first : FaultsAreFirst
faults_are_first = λ bytes fault. record {
  head = (head_told bytes fault, head_found bytes fault);
  front = (front_fault bytes fault, front_found bytes fault);
  file = (file_fault bytes fault, file_found bytes fault);
}

-- a head is read from its own bytes alone
pub heads_stand_alone : HeadsStandAlone
heads_stand_alone = head_alone

-- the words of a memory, with its numbers, are an image that has a file
pub memories_are_sized : MemoriesAreSized
memories_are_sized = λ config words is counted fit. record {
  sizes = record {
    some_nodes = is.nodes_in_range.at_least;
    nodes_fit = is.nodes_in_range.at_most;
    some_swaps = is.swaps_in_range.at_least;
    swaps_fit = is.swaps_in_range.at_most;
  };
  counted = omega (arith, counted);
  words_fit = fit;
}
