-- Lemmas of the library on the elements in front and at the end that pass a test.
use Rattle.std.proofs.lemmas.List.{take_rest}
use Rattle.std.proofs.lemmas.List.Folds.{length-prefix_len}
use Rattle.std.proofs.lemmas.List.Sums.{prefix_len-le-length, suffix_len-le-length}

pub ruleset prefixes = (length-prefix_len, prefix_len-le-length, suffix_len-le-length, take_rest)
