-- What the contracts cite. Assumes nothing.
pub mod Orders
pub mod Rising
pub mod Table
pub mod Find
pub mod Store
pub mod Remove
pub mod Map
