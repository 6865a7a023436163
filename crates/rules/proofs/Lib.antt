-- What follows from the worked sheets of specs/.
--   PointClaims   what the margins say at the recipes of Points
pub mod PointClaims
