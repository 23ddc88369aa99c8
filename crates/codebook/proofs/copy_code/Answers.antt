-- `codebook::copy_code` meets its contract: the constant is the book, entry by entry.
use mathlib.Core.Path.{refl}
use Rattle.codebook.specs.Book.{book}
use Rattle.codebook.proofs.copy_code.Goals as goal

pub copy_from-requires : goal.copy_from-requires
unfolding book
copy_from-requires c = record { elements_value = refl; index_bound = c.requires }
