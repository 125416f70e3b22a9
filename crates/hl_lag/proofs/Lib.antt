pub mod LagLaws
