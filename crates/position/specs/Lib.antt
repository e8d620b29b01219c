-- A coordinate's cell and a position's, the floats of a stretch of cells, and their laws.
pub mod Cell
pub mod Answer
pub mod Spots
pub mod Exact
pub mod Band
pub mod WholeLaws
pub mod BandLaws
pub mod Laws
