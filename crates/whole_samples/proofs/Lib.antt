pub mod FedTexts
