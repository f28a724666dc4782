use Rattle.std.proofs.Common.{arith}
use Rattle.sr_laws.proofs.Ranges.{good, label-some, below-label, index-in_ranges, in_ranges-from_label, index-unique, label-within, sizes-few}
use Rattle.sr_laws.proofs.labels_and_indices.Goals as goal

pub returns : goal.returns
returns c = record {
  labels = λ rs i. (λ lt. label-some rs i lt, λ e. below-label rs i e.0 e.1);
  indices = λ rs t. (λ h. index-in_ranges rs t h, λ e. in_ranges-from_label rs e.0 t e.1);
  unique = index-unique;
  free = λ rs s. (sizes-few rs 1048576 (omega arith) (good rs s), λ i t e. label-within rs i t (good rs s) e);
}
