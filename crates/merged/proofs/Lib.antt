-- The merged tree laid down as one more table: the path of the lists that are begun; one record more, the end of a list, and the tree
-- when all lists are laid; the same turn by turn as the code goes; then that the tables in memory give such steps, and that the tree is
-- the rules'.
pub mod Path
pub mod Spreading
pub mod Ending
pub mod Laid
pub mod Turns
pub mod Reaching
pub mod Merging
