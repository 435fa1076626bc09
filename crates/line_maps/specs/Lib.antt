pub mod LineMaps
