pub mod OfSatellites
